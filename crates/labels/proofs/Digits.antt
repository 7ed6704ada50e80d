-- What labels that fit tell (specs/Labels.antt): each is in its range, and no number among them has more digits than columns.
-- Assumes nothing.
use mathlib.Core.Path.{◌≡◌}
use mathlib.Core.Bool.{Bool, true, ◌&&◌, ◌||◌}
use Prim.Native.Nat.{ℕ, ◌≤◌, ◌<◌}
use native.Mathlib.Omega.{arith}
use lib.Dec.{leb, eqb}
use borrow.Author.Tests.{leb-true, eqb-true}
use Rattle.limits.proofs.Laws.{both, either}
use Rattle.labels.specs.declared.Labels.{Labels}
use Rattle.labels.specs.Labels.{constellation_fits_lem, code_fits_lem, labels_fit_lem}

module _ (letter ioe fr : ℕ) where
  abbrev other : ℕ → ℕ → Bool
  other c most = eqb letter c && leb ioe most && eqb fr 0

  abbrev glonass : Bool
  glonass = eqb letter 82 && leb 1 ioe && leb ioe 96 && leb 1 fr && leb fr 24

  few-other : (c most : ℕ) → most < 1000 → other c most ≡ true → (ioe < 1000) × (fr < 100)
  few-other c most h e =
      let p = both (eqb letter c && leb ioe most) (eqb fr 0) e in
      let q = both (eqb letter c) (leb ioe most) p.0 in
      omega (arith, leb-true ioe most q.1, eqb-true fr 0 p.1)

  few-glonass : glonass ≡ true → (ioe < 1000) × (fr < 100)
  few-glonass e =
      let p = both (eqb letter 82 && leb 1 ioe && leb ioe 96 && leb 1 fr) (leb fr 24) e in
      let q = both (eqb letter 82 && leb 1 ioe && leb ioe 96) (leb 1 fr) p.0 in
      let r = both (eqb letter 82 && leb 1 ioe) (leb ioe 96) q.0 in
      omega (arith, leb-true ioe 96 r.1, leb-true fr 24 p.1)

  -- whatever the letter, IOE has at most three digits and FR at most two
  few-digits : constellation_fits_lem letter ioe fr ≡ true → (ioe < 1000) × (fr < 100)
  unfolding constellation_fits_lem
  few-digits e = either (other 71 255 || glonass || other 69 999 || other 67 23) (other 74 255) e by-letter (few-other 74 255 (omega arith))
    where
      gps : other 71 255 || glonass ≡ true → (ioe < 1000) × (fr < 100)
      gps f = either (other 71 255) glonass f (few-other 71 255 (omega arith)) few-glonass

      galileo : other 71 255 || glonass || other 69 999 ≡ true → (ioe < 1000) × (fr < 100)
      galileo f = either (other 71 255 || glonass) (other 69 999) f gps (few-other 69 999 (omega arith))

      by-letter : other 71 255 || glonass || other 69 999 || other 67 23 ≡ true → (ioe < 1000) × (fr < 100)
      by-letter f = either (other 71 255 || glonass || other 69 999) (other 67 23) f galileo (few-other 67 23 (omega arith))

-- each label is in its range
pub record Ranged (l : Labels) : Type 0 where
  pub letter : constellation_fits_lem l.constellation l.ioe l.fr ≡ true
  pub satellite : (1 ≤ l.satellite) × (l.satellite ≤ 99)
  pub hc : l.hc ≤ 99
  pub codes : (code_fits_lem l.frc1 ≡ true) × (code_fits_lem l.frc2 ≡ true) × (code_fits_lem l.frc3 ≡ true)
  pub elv : l.elv ≤ 900
  pub azth : l.azth ≤ 3599

pub ranged : (l : Labels) → labels_fit_lem l ≡ true → Ranged l
unfolding labels_fit_lem
ranged l e =
    let azth = both (fits && leb 1 l.satellite && leb l.satellite 99 && leb l.hc 99 && codes && leb l.elv 900) (leb l.azth 3599) e in
    let elv = both (fits && leb 1 l.satellite && leb l.satellite 99 && leb l.hc 99 && codes) (leb l.elv 900) azth.0 in
    let code = both (fits && leb 1 l.satellite && leb l.satellite 99 && leb l.hc 99) codes elv.0 in
    let hc = both (fits && leb 1 l.satellite && leb l.satellite 99) (leb l.hc 99) code.0 in
    let most = both (fits && leb 1 l.satellite) (leb l.satellite 99) hc.0 in
    let least = both fits (leb 1 l.satellite) most.0 in
    let third = both (code_fits_lem l.frc1 && code_fits_lem l.frc2) (code_fits_lem l.frc3) code.1 in
    let second = both (code_fits_lem l.frc1) (code_fits_lem l.frc2) third.0 in
    record {
      letter = least.0;
      satellite = (leb-true 1 l.satellite least.1, leb-true l.satellite 99 most.1);
      hc = leb-true l.hc 99 hc.1;
      codes = (second.0, second.1, third.1);
      elv = leb-true l.elv 900 elv.1;
      azth = leb-true l.azth 3599 azth.1;
    }
  where
    fits : Bool
    fits = constellation_fits_lem l.constellation l.ioe l.fr

    codes : Bool
    codes = code_fits_lem l.frc1 && code_fits_lem l.frc2 && code_fits_lem l.frc3

-- the numbers among the labels have no more digits than columns
pub record Few (l : Labels) : Type 0 where
  pub satellite : l.satellite < 100
  pub ioe : l.ioe < 1000
  pub fr : l.fr < 100
  pub hc : l.hc < 100
  pub elv : l.elv < 1000
  pub azth : l.azth < 10000

pub few : (l : Labels) → labels_fit_lem l ≡ true → Few l
few l e =
    let r = ranged l e in
    let d = few-digits l.constellation l.ioe l.fr r.letter in
    record {
      satellite = omega (arith, r.satellite.1);
      ioe = d.0;
      fr = d.1;
      hc = omega (arith, r.hc);
      elv = omega (arith, r.elv);
      azth = omega (arith, r.azth);
    }
