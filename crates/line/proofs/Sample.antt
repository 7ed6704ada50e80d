-- The sample line of document 01 ("The hire block"): the definitions give it to the letter, and Line accepts its labels and numbers.
-- Assumes nothing.
use mathlib.Core.Path.{◌≡◌, refl}
use Prim.Native.Char.{code}
use lib.IntN.{pos}
use Rattle.limits.specs.Refusal.{◌when◌, ◌then◌}
use Rattle.limits.specs.Limits.{outside, limits_number, dsg_number}
use Rattle.schedule.specs.Schedule.{brought_in, start_minute, some, is_start_lem, start_number}
use Rattle.fields.specs.Text.{bytes_of, decimal, sign, signed, hex_digit_lem, hexadecimal, byte_sum, checksum}
use Rattle.labels.specs.declared.Labels.{Labels}
use Rattle.limits.specs.declared.Numbers.{Numbers}
use Rattle.limits.specs.Blocks.{blocks_fit_lem}
use Rattle.labels.specs.Labels.{constellation_fits_lem, code_fits_lem, labels_fit_lem, track_length_fits_lem}
use Rattle.labels.specs.Content.{content_number}
use Rattle.line.specs.Line.{line_answer}
use Rattle.columns.specs.Text.{time_of_day, track_columns, clock_columns, delay_columns, columns, spaced, line_text, line_length}

abbrev pub labels : Labels
labels =
    record {
      constellation = code "G";
      satellite = 5;
      cl = 255;
      fr = 0;
      hc = 0;
      frc1 = code "L";
      frc2 = code "1";
      frc3 = code "C";
      mjd = 50722;
      start = 120;
      elv = 450;
      azth = 1800;
      ioe = 7;
    }

abbrev pub numbers : Numbers
numbers =
    record {
      refsv = pos 10;
      srsv = pos 0;
      refsys = pos 10;
      srsys = pos 0;
      mdtr = pos 0;
      smdt = pos 0;
      mdio = pos 0;
      smdi = pos 0;
      dsg = pos 0;
      trkl = pos 780;
    }

pub sample : line_text labels numbers ≡ bytes_of "G05 FF 50722 000200 0780 450 1800 +0000000010 +00000 +0000000010 +00000 0000 007 0000 +000 0000 +000 00 00 L1C 26"
unfolding bytes_of line_text columns track_columns clock_columns delay_columns spaced time_of_day decimal signed sign hexadecimal hex_digit_lem checksum byte_sum
sample = refl

pub sample-accepted : line_answer labels numbers line_length ≡ 0
unfolding line_answer content_number ◌when◌ ◌then◌ labels_fit_lem constellation_fits_lem code_fits_lem start_number is_start_lem some start_minute brought_in limits_number dsg_number outside track_length_fits_lem blocks_fit_lem
sample-accepted = refl
