-- Labels and the ten numbers as a caller gives them, one after the other in their fixed orders (document 01, Line).
-- Assumes nothing.
use Rattle.std.specs.Prelude.{ℕ, ℤ}
use Rattle.limits.specs.declared.Numbers.{Numbers}
use Rattle.labels.specs.declared.Labels.{Labels}

abbrev pub labels_of : (constellation satellite cl fr hc frc1 frc2 frc3 mjd start elv azth ioe : ℕ) → Labels
labels_of constellation satellite cl fr hc frc1 frc2 frc3 mjd start elv azth ioe =
    record {
      constellation = constellation;
      satellite = satellite;
      cl = cl;
      fr = fr;
      hc = hc;
      frc1 = frc1;
      frc2 = frc2;
      frc3 = frc3;
      mjd = mjd;
      start = start;
      elv = elv;
      azth = azth;
      ioe = ioe;
    }

abbrev pub numbers_of : (refsv srsv refsys srsys mdtr smdt mdio smdi dsg trkl : ℤ) → Numbers
numbers_of refsv srsv refsys srsys mdtr smdt mdio smdi dsg trkl =
    record {
      refsv = refsv;
      srsv = srsv;
      refsys = refsys;
      srsys = srsys;
      mdtr = mdtr;
      smdt = smdt;
      mdio = mdio;
      smdi = smdi;
      dsg = dsg;
      trkl = trkl;
    }
