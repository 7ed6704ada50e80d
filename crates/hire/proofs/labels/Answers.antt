-- `hire::labels` meets its contract.
-- Assumes nothing.
use Rattle.labels.specs.Given.{labels_of}
use Rattle.hire.specs.Hire.{block_labels}
use Rattle.hire.proofs.labels.Goals as goal

pub returns : goal.returns
unfolding block_labels
returns c =
    λ i. labels_of
    (c.byte.ensures i)
    (c.byte-2.ensures i)
    (c.byte-3.ensures i)
    (c.byte-4.ensures i)
    (c.byte-5.ensures i)
    (c.byte-6.ensures i)
    (c.byte-7.ensures i)
    (c.byte-8.ensures i)
    (c.unsigned32.ensures i)
    (c.unsigned32-2.ensures i)
    (c.unsigned16.ensures i)
    (c.unsigned16-2.ensures i)
    (c.unsigned16-3.ensures i)
