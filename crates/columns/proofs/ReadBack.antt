-- No digit is lost: what a reader takes from the columns of a line are the labels and the numbers given, where their content is not refused.
-- Assumes nothing.
use mathlib.Core.Path.{◌≡◌, refl, sym, ap, ◌∙◌}
use mathlib.Core.List.{List, [], ◌++◌, append_assoc}
use Prim.Native.Nat.{ℕ, suc, ◌+◌, ◌*◌, ◌/◌, ◌%◌, ◌^◌, ◌≤◌, ◌<◌}
use native.Mathlib.Omega.{arith}
use lib.ListN.{take, drop, get_or}
use lib.Seq.{drop-drop, get_or-take, get_or-drop, take_at, drop_at, take_all}
use lib.IntN.{ℤ, pos, nat_abs}
use Rattle.limits.proofs.Laws as limits
use Rattle.schedule.specs.Schedule.{last_date as schedule·last_date, repeat_period as schedule·repeat_period}
use Rattle.schedule.proofs.Minutes as schedule
use Rattle.fields.specs.Text.{decimal, signed, hexadecimal, checksum}
use Rattle.fields.specs.Read.{read_decimal, read_signed, read_hexadecimal}
use Rattle.fields.proofs.Lists.{piece_of}
use Rattle.fields.proofs.Laws.{read-decimal, read-signed, read-hexadecimal, length-decimal}
use Rattle.labels.specs.declared.Labels.{Labels}
use Rattle.limits.specs.declared.Numbers.{Numbers}
use Rattle.labels.specs.Content.{content_number}
use Rattle.labels.proofs.Lengths.{length-within}
use Rattle.labels.proofs.Digits.{Few, few}
use Rattle.labels.proofs.Accepted.{Accepted, accepted}
use Rattle.columns.specs.Text.{time_of_day, track_columns, clock_columns, delay_columns, columns, spaced, line_text}
use Rattle.columns.specs.Columns.{byte_in, field, read_numbers, labels_with_lem, read_labels}
use Rattle.columns.proofs.Widths.{widths, offset, columns-sized, column-at}

module _ (l : Labels) (n : Numbers) (rest : List ℕ) where
  -- column k of the text, and what stands behind the line does not matter
  text-column : (k : ℕ) → k < 20 → take (get_or widths k 0) (drop (offset widths k) (line_text l n ++ rest)) ≡ get_or (columns l n) k []
  unfolding line_text
  text-column k h =
      ap (λ (t : List ℕ). take (get_or widths k 0) (drop (offset widths k) t)) (append_assoc (spaced (columns l n)) (hexadecimal (checksum (spaced (columns l n)))) rest)
      ∙ column-at (columns-sized l n) k h (hexadecimal (checksum (spaced (columns l n))) ++ rest)

  signed_back : (k width : ℕ) (z : ℤ) → k < 20 → get_or (columns l n) k [] ≡ signed (suc width) z → nat_abs z < 10 ^ width
      → read_signed (take (get_or widths k 0) (drop (offset widths k) (line_text l n ++ rest))) ≡ z
  signed_back k width z h e b = ap read_signed (text-column k h ∙ e) ∙ read-signed width z b

  decimal-back : (k width m : ℕ) → k < 20 → get_or (columns l n) k [] ≡ decimal width m → m < 10 ^ width
      → read_decimal (take (get_or widths k 0) (drop (offset widths k) (line_text l n ++ rest))) ≡ m
  decimal-back k width m h e b = ap read_decimal (text-column k h ∙ e) ∙ read-decimal width m b

  -- a byte of column k, and a piece of it
  byte-back : (k j : ℕ) → k < 20 → j < get_or widths k 0 → get_or (line_text l n ++ rest) (offset widths k + j) 0 ≡ get_or (get_or (columns l n) k []) j 0
  byte-back k j h b =
      sym (get_or-take (get_or widths k 0) (drop (offset widths k) (line_text l n ++ rest)) j 0 b ∙ get_or-drop (offset widths k) (line_text l n ++ rest) j 0)
      ∙ ap (λ (t : List ℕ). get_or t j 0) (text-column k h)

  piece_back : (k a v : ℕ) → k < 20 → a + v ≤ get_or widths k 0 → take v (drop (offset widths k + a) (line_text l n ++ rest)) ≡ take v (drop a (get_or (columns l n) k []))
  piece_back k a v h b =
      ap (take v) (sym (drop-drop a (offset widths k) (line_text l n ++ rest)))
      ∙ sym (piece_of a v (get_or widths k 0) (drop (offset widths k) (line_text l n ++ rest)) b)
      ∙ ap (λ (t : List ℕ). take v (drop a t)) (text-column k h)

pub numbers-back : (l : Labels) (n : Numbers) (rest : List ℕ) → content_number l n ≡ 0 → read_numbers (line_text l n ++ rest) ≡ n
unfolding read_numbers field columns track_columns clock_columns delay_columns
numbers-back l n rest e =
    λ i. record {
      refsv = signed_back l n rest 7 10 n.refsv (omega arith) refl (omega (arith, w.midpoints)) i;
      srsv = signed_back l n rest 8 5 n.srsv (omega arith) refl (omega (arith, w.slopes)) i;
      refsys = signed_back l n rest 9 10 n.refsys (omega arith) refl (omega (arith, w.midpoints)) i;
      srsys = signed_back l n rest 10 5 n.srsys (omega arith) refl (omega (arith, w.slopes)) i;
      mdtr = (ap pos (decimal-back l n rest 13 4 (nat_abs n.mdtr) (omega arith) refl (omega (arith, w.delays))) ∙ w.delays.0) i;
      smdt = signed_back l n rest 14 3 n.smdt (omega arith) refl (omega (arith, w.slopes)) i;
      mdio = (ap pos (decimal-back l n rest 15 4 (nat_abs n.mdio) (omega arith) refl (omega (arith, w.delays))) ∙ w.delays.2) i;
      smdi = signed_back l n rest 16 3 n.smdi (omega arith) refl (omega (arith, w.slopes)) i;
      dsg = (ap pos (decimal-back l n rest 11 4 (nat_abs n.dsg) (omega arith) refl (omega (arith, d))) ∙ d.0) i;
      trkl = (ap pos (decimal-back l n rest 4 4 (nat_abs n.trkl) (omega arith) refl (omega (arith, t))) ∙ t.0) i;
    }
  where
    a : Accepted l n
    a = accepted l n e

    w : limits.InLimits n
    w = limits.within n a.limits

    d : (pos (nat_abs n.dsg) ≡ n.dsg) × (nat_abs n.dsg ≤ 9999)
    d = limits.dsg-within n.dsg a.dsg

    t : (pos (nat_abs n.trkl) ≡ n.trkl) × (60 ≤ nat_abs n.trkl) × (nat_abs n.trkl ≤ 780)
    t = length-within n.trkl a.trkl

-- ---- the labels

-- the start, read from hours, minutes and seconds

time-pieces : (second : ℕ) → (take 2 (drop 0 (time_of_day second)) ≡ decimal 2 (second / 3600))
    × (take 2 (drop 2 (time_of_day second)) ≡ decimal 2 (second / 60 % 60))
    × (take 2 (drop 4 (time_of_day second)) ≡ decimal 2 (second % 60))
unfolding time_of_day
time-pieces second = (
  take_at hour (minute ++ last) 2 (length-decimal 2 _),
  ap (take 2) (drop_at hour (minute ++ last) 2 (length-decimal 2 _)) ∙ take_at minute last 2 (length-decimal 2 _),
  ap (take 2) (sym (drop-drop 2 2 (hour ++ (minute ++ last))) ∙ ap (drop 2) (drop_at hour (minute ++ last) 2 (length-decimal 2 _)) ∙ drop_at minute last 2 (length-decimal 2 _))
      ∙ take_all 2 last (omega (arith, length-decimal 2 (second % 60))),
)
  where
    hour : List ℕ
    hour = decimal 2 (second / 3600)

    minute : List ℕ
    minute = decimal 2 (second / 60 % 60)

    last : List ℕ
    last = decimal 2 (second % 60)

time-sum : (second : ℕ) → 3600 * (second / 3600) + 60 * (second / 60 % 60) + second % 60 ≡ second
time-sum second = omega arith

module _ (l : Labels) (n : Numbers) (rest : List ℕ) where
  satellite-back : l.satellite < 100 → read_decimal (field 2 3 (line_text l n ++ rest)) ≡ l.satellite
  unfolding field columns track_columns
  satellite-back h =
      ap read_decimal (piece_back l n rest 0 1 2 (omega arith) (omega arith) ∙ take_all 2 (decimal 2 l.satellite) (omega (arith, length-decimal 2 l.satellite)))
      ∙ read-decimal 2 l.satellite h

  start_back : l.start < 86400
      → 3600 * read_decimal (field 14 15 (line_text l n ++ rest)) + 60 * read_decimal (field 16 17 (line_text l n ++ rest)) + read_decimal (field 18 19 (line_text l n ++ rest)) ≡ l.start
  unfolding field columns track_columns
  start_back h =
      let p = time-pieces l.start in
      let hour = ap read_decimal (piece_back l n rest 3 0 2 (omega arith) (omega arith) ∙ p.0) ∙ read-decimal 2 (l.start / 3600) (omega arith) in
      let minute = ap read_decimal (piece_back l n rest 3 2 2 (omega arith) (omega arith) ∙ p.1) ∙ read-decimal 2 (l.start / 60 % 60) (omega arith) in
      let second = ap read_decimal (piece_back l n rest 3 4 2 (omega arith) (omega arith) ∙ p.2) ∙ read-decimal 2 (l.start % 60) (omega arith) in
      omega (arith, hour, minute, second, time-sum l.start)

pub labels-back : (l : Labels) (n : Numbers) (rest : List ℕ) → content_number l n ≡ 0 → l.cl < 256 → read_labels (line_text l n ++ rest) ≡ l
unfolding read_labels labels_with_lem byte_in field columns track_columns clock_columns delay_columns
labels-back l n rest e cl =
    λ i. record {
      constellation = byte-back l n rest 0 0 (omega arith) (omega arith) i;
      satellite = satellite-back l n rest f.satellite i;
      cl = (ap read_hexadecimal (text-column l n rest 1 (omega arith)) ∙ read-hexadecimal l.cl cl) i;
      fr = decimal-back l n rest 17 2 l.fr (omega arith) refl f.fr i;
      hc = decimal-back l n rest 18 2 l.hc (omega arith) refl f.hc i;
      frc1 = byte-back l n rest 19 0 (omega arith) (omega arith) i;
      frc2 = byte-back l n rest 19 1 (omega arith) (omega arith) i;
      frc3 = byte-back l n rest 19 2 (omega arith) (omega arith) i;
      mjd = decimal-back l n rest 2 5 l.mjd (omega arith) refl (omega (arith, s)) i;
      start = start_back l n rest (omega (arith, s)) i;
      elv = decimal-back l n rest 5 3 l.elv (omega arith) refl f.elv i;
      azth = decimal-back l n rest 6 4 l.azth (omega arith) refl f.azth i;
      ioe = decimal-back l n rest 12 3 l.ioe (omega arith) refl f.ioe i;
    }
  where
    a : Accepted l n
    a = accepted l n e

    f : Few l
    f = few l a.labels

    s : (l.mjd ≤ schedule·last_date) × (l.start < 60 * schedule·repeat_period)
    s = schedule.accepted l.mjd l.start a.start
