-- The machine of an image that breaks no rule.
use Rattle.std.proofs.Common.{◌≡◌, ◌<◌, ◌≤◌, Bool, true, false, Option, None, Some, refl, arith, ltb-false}
use Rattle.std.specs.Prelude.{pos, if◌then◌else◌, nat_lt, nat_le}
use Rattle.std.proofs.lemmas.Bool.Decides.{nat_tests}
use Rattle.hardware_check.proofs.Powers.{power_is}
use Rattle.image_record.specs.declared.refusal.Refusal.{Refusal}
use Rattle.image_record.specs.Record.{Raw}
use Rattle.image_record.specs.Cases.{refusal}
use Rattle.image_record.specs.Numbers.{natural_of}
use Rattle.hardware_check.specs.Hardware.{Hardware, cache_shape_of, hardware_of, shared_frames, last_shared_frame}
use Rattle.hardware_check.specs.Rules.{k11, room_case, is_region}
use Rattle.hardware_check.specs.Laws.{HardwareLaw}
use Rattle.image_record.proofs.FirstCases.{if_first, if_rest}
use Rattle.hardware_check.proofs.Parts.{some_line, parts_sound, frames_sound, colours_sound, costs_sound, short_history, whole_frames, region_sound}
use Rattle.hardware_check.proofs.Products.{few_mul, few_div, few_targets, buffer_sound}

-- ---- the shared region

region_if : (b : Bool) (o : Option Refusal) (r : Refusal) → (if b then o else Some r) ≡ None
    → (b ≡ true) × (o ≡ None)
region_if true o r n = (refl, n)
region_if false o r n = cc

-- its two cases
pub shared_cases : (i : Raw) → k11 i ≡ None
    → (is_region i.line i.shared ≡ true) × (room_case (hardware_of i) ≡ None)
unfolding k11
shared_cases i n = region_if (is_region i.line i.shared) (room_case (hardware_of i)) (refusal 11 (pos 1) i.shared (pos 65536)) n

record HasRoom (h : Hardware) : Type 0 where
  pub ways : shared_frames h ≤ h.l2.ways
  pub memory : last_shared_frame h < h.frames

room : (h : Hardware) → room_case h ≡ None → HasRoom h
unfolding room_case
room h n =
    let first = refusal 11 (pos 2) (pos (shared_frames h)) (pos h.l2.ways) in
    let second = refusal 11 (pos 3) (pos (last_shared_frame h)) (pos h.frames) in
    let later : Option Refusal = if nat_le h.frames (last_shared_frame h) then Some second else None in
    let past = if_first (nat_le h.frames (last_shared_frame h)) second None (if_rest (nat_lt h.l2.ways (shared_frames h)) first later n) in
    record {
      ways = ltb-false h.l2.ways (shared_frames h) (if_first (nat_lt h.l2.ways (shared_frames h)) first later n);
      memory = grind (arith, nat_tests, past);
    }

-- ---- the whole machine

pub hardware_law : HardwareLaw
unfolding hardware_of
hardware_law i k =
    let parts = parts_sound i k.parts.parts in
    let frames = frames_sound i k.parts.frames in
    let colours = colours_sound i k.parts.colours in
    let cases = shared_cases i k.shared in
    let region = region_sound i.line i.shared (some_line i k.parts) cases.0 in
    let has_room = room (hardware_of i) cases.1 in
    record {
      least_frames = frames.least;
      most_frames = frames.most;
      line = parts.line;
      l1i = parts.l1i;
      l1d = parts.l1d;
      l2 = parts.l2;
      tlb = parts.tlb;
      predictor = parts.predictor;
      few_history = short_history i k.parts.parts;
      costs = costs_sound i k.parts.costs;
      few_mul = few_mul i.muldiv;
      few_div = few_div i.muldiv;
      few_targets = few_targets i.targets;
      targets = buffer_sound i.targets;
      some_colours = colours.least;
      few_colours = colours.most;
      whole_colours =
          whole_frames (cache_shape_of i.l2).sets (natural_of i.line)
          (power_is (cache_shape_of i.l2).sets parts.l2.sets.power)
          (power_is (natural_of i.line) parts.line.power) (omega (arith, colours.least));
      some_shared = region.some;
      few_shared = region.few;
      whole_lines = region.whole;
      shared_in_ways = has_room.ways;
      shared_in_memory = has_room.memory;
    }
