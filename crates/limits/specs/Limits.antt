-- The limits on the ten numbers that Track answers and Line writes (document 01, refusals 3, 4, 5 and 6), and on what Track is given and a store
-- keeps (refusal 2, and 20 of document 02, Job 9).
-- Assumes nothing.
use Rattle.std.specs.Prelude.{ℕ, ◌^◌, Bool, ◌||◌, ℤ, pos, neg_ℤ}
use Rattle.std.specs.Int.Signed.{lt_z}
use Rattle.limits.specs.Refusal.{◌when◌, ◌then◌}
use Rattle.limits.specs.declared.Numbers.{Numbers}

-- z lies outside low to high, both ends being inside.
unfoldable pub outside : ℤ → ℤ → ℤ → Bool
outside low high z = lt_z z low || lt_z high z

-- z lies outside plus or minus limit.
abbrev pub beyond : ℕ → ℤ → Bool
beyond limit z = outside (neg_ℤ (pos limit)) (pos limit) z

-- The limits on what is given, in ps: on a measurement, with the least and the most that it may be, and on INT, CAB, REF, GD and every correction but
-- the geometry.
abbrev pub measurement_limit : ℕ
measurement_limit = 10 ^ 12

abbrev pub measurement_least : ℤ
measurement_least = neg_ℤ (pos measurement_limit)

abbrev pub measurement_most : ℤ
measurement_most = pos measurement_limit

abbrev pub delay_limit : ℕ
delay_limit = 10 ^ 10

-- One of the four delays is beyond its limit.
abbrev pub delays_beyond_lem : (int cab refdly gd : ℤ) → Bool
delays_beyond_lem int cab refdly gd =
    beyond delay_limit int || beyond delay_limit cab || beyond delay_limit refdly || beyond delay_limit gd

-- 3, 4 and 5 on the eight fitted numbers, in the paper's order.
unfoldable pub limits_number : Numbers → ℕ
limits_number n =
    3 when (beyond 9999999999 n.refsv || beyond 9999999999 n.refsys)
    then 4 when (beyond 99999 n.srsv || beyond 99999 n.srsys || beyond 999 n.smdt || beyond 999 n.smdi)
    then 5 when (outside (pos 0) (pos 9999) n.mdtr || outside (pos 0) (pos 9999) n.mdio)

-- 6 on a DSG, given or computed.
unfoldable pub dsg_number : ℤ → ℕ
dsg_number dsg = 6 when outside (pos 0) (pos 9999) dsg

-- Ten numbers that are 0 throughout: those of a refusal.
abbrev pub no_numbers : Numbers
no_numbers =
    record {
      refsv = pos 0;
      srsv = pos 0;
      refsys = pos 0;
      srsys = pos 0;
      mdtr = pos 0;
      smdt = pos 0;
      mdio = pos 0;
      smdi = pos 0;
      dsg = pos 0;
      trkl = pos 0;
    }
