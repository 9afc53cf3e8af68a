-- The texts that the program writes.
use Rattle.std.specs.Prelude.{ℕ, nat_eq, if◌then◌else◌, map, List, [], ◌∷◌, ◌++◌, length, slice_index_or, codes, decimal}
use Rattle.std.specs.Fmt.{signed_decimal}
use Rattle.std.specs.List.{concat, flat_map, range_with_len}
use Rattle.guards.specs.declared.Guard.{Guard}
use Rattle.guards.specs.Names.{name_of}
use Rattle.image_record.specs.declared.refusal.Refusal.{Refusal}
use Rattle.sched_table.specs.declared.schedule.Entry.{Entry}
use Rattle.sched_table.specs.Schedule.{entry_in}
use Rattle.pad_bound.specs.Bound.{MachineShape, worst_instruction, worst_operation, worst_leave, worst_prefetch, worst_flush, worst_enter, bound_of, with_calls}
use Rattle.pad_bound.specs.declared.shape.Bound.{Bound}
use Rattle.image_check.specs.Image.{Image, own_of}
use Rattle.image_check.specs.Pads.{shape_for_every_call}
use Rattle.world_view.specs.Machine.{World, whole, whole_off}
use Rattle.world_view.specs.Used.{count_of, largest_of}
use Rattle.world_view.specs.View.{View, view_in}
use Rattle.tp_report.specs.Texts.{section}

-- ---- switches

unfoldable pub switch_line : ℕ → ℕ → ℕ → ℕ → List ℕ
switch_line e largest pad count =
    concat (codes "switch " ∷ decimal e ∷ codes " used " ∷ decimal largest ∷ codes " pad " ∷ decimal pad
    ∷ codes " count " ∷ decimal count ∷ codes "\n" ∷ [])

unfoldable pub switch_text : List Entry → List (ℕ × ℕ) → ℕ → List ℕ
switch_text es used e = switch_line e (largest_of e used) (entry_in es e).pad (count_of e used)

-- a line for each entry
unfoldable pub switch_lines : List Entry → List (ℕ × ℕ) → List ℕ
switch_lines es used = flat_map (switch_text es used) (range_with_len 0 (length es))

-- ---- the report

unfoldable pub end_text : List ℕ
end_text = codes "end\n"

-- the section that a view of domain d gets
unfoldable pub section_of : Image → (ℕ → View) → ℕ → List ℕ
section_of i views d = section d (own_of i d).name (views d)

unfoldable pub sections : Image → (ℕ → View) → List ℕ
sections i views = flat_map (section_of i views) (range_with_len 0 i.all.domains)

-- sections by domain, switch lines by entry, and the end
unfoldable pub report_with : Image → (ℕ → View) → List (ℕ × ℕ) → List ℕ
report_with i views used = concat (sections i views ∷ switch_lines i.all.schedule used ∷ end_text ∷ [])

-- of a machine in this state
unfoldable pub report_of : Image → World → List ℕ
report_of i w = report_with i (λ d. view_in i d w) w.used

-- what ends it: the switch lines, and the last line
unfoldable pub ending_of : Image → World → List ℕ
ending_of i w = switch_lines i.all.schedule w.used ++ end_text

-- of an image of one hart after n slots
unfoldable pub ending : Image → ℕ → List ℕ
ending i n = ending_of i (whole i n)

-- ---- with a guard off

-- which one
unfoldable pub unprotected_text : Guard → List ℕ
unprotected_text off = concat (codes "unprotected " ∷ name_of off ∷ codes "\n" ∷ [])

-- which one, and the report of that machine after n slots
unfoldable pub report_off : Guard → Image → ℕ → List ℕ
report_off off i n = unprotected_text off ++ report_of i (whole_off off i n)

-- ---- the bound on a switch

-- of a machine, in its parts
unfoldable pub bound_in_parts : MachineShape → Bound
bound_in_parts s = record {
  instruction = worst_instruction s;
  operation = worst_operation s;
  leave = worst_leave s;
  prefetch = worst_prefetch s;
  flush = worst_flush s;
  enter = worst_enter s;
  total = bound_of s;
}

-- a line for each part, and for all
unfoldable pub bound_text : Bound → List ℕ
bound_text b = concat (
    codes "instruction " ∷ decimal b.instruction
    ∷ codes "\noperation " ∷ decimal b.operation
    ∷ codes "\nleave " ∷ decimal b.leave
    ∷ codes "\nprefetch " ∷ decimal b.prefetch
    ∷ codes "\nflush " ∷ decimal b.flush
    ∷ codes "\nenter " ∷ decimal b.enter
    ∷ codes "\nbound " ∷ decimal b.total
    ∷ codes "\n" ∷ [])

-- ---- the bounds on switches, where each domain may make calls of its own

-- a line for each part that is the same whoever leaves
unfoldable pub shared_parts_text : MachineShape → List ℕ
shared_parts_text s = concat (
    codes "instruction " ∷ decimal (worst_instruction s)
    ∷ codes "\nleave " ∷ decimal (worst_leave s)
    ∷ codes "\nprefetch " ∷ decimal (worst_prefetch s)
    ∷ codes "\nflush " ∷ decimal (worst_flush s)
    ∷ codes "\nenter " ∷ decimal (worst_enter s)
    ∷ codes "\n" ∷ [])

-- the operation and all parts, of a machine for the domain of entry e
unfoldable pub entry_line : ℕ → MachineShape → List ℕ
entry_line e s =
    concat (codes "entry " ∷ decimal e ∷ codes " operation " ∷ decimal (worst_operation s) ∷ codes " bound "
    ∷ decimal (bound_of s) ∷ codes "\n" ∷ [])

-- the line of entry e, after which its domain leaves; which calls may be made is listed by domain
unfoldable pub entry_text : MachineShape → List Entry → List ℕ → ℕ → List ℕ
entry_text s es calls e = entry_line e (with_calls s (slice_index_or calls (entry_in es e).domain 0))

-- a line for each entry
unfoldable pub entries_text : MachineShape → List Entry → List ℕ → List ℕ
entries_text s es calls = flat_map (entry_text s es calls) (range_with_len 0 (length es))

unfoldable pub bound_2_text : MachineShape → List Entry → List ℕ → List ℕ
bound_2_text s es calls = shared_parts_text s ++ entries_text s es calls

-- what is told of an image's switches: in the first version every domain may make every call
unfoldable pub bounds_of : Image → List ℕ
bounds_of i =
    if nat_eq i.all.version 1 then bound_text (bound_in_parts (shape_for_every_call i.all.hardware))
    else bound_2_text (shape_for_every_call i.all.hardware) i.all.schedule (map (λ o. o.calls) i.owns)

-- ---- other texts

-- no rule is broken
unfoldable pub accepted_text : List ℕ
accepted_text = codes "accepted\n"

unfoldable pub usage_text : List ℕ
usage_text = codes "usage: tp check|bound|run|alone|gen|demo\n"

-- the rule that is broken, and its three numbers
unfoldable pub refusal_text : Refusal → List ℕ
refusal_text r =
    concat (codes "refused K" ∷ decimal r.rule ∷ codes " at " ∷ signed_decimal r.at ∷ codes " found "
    ∷ signed_decimal r.found ∷ codes " wanted " ∷ signed_decimal r.wanted ∷ codes "\n" ∷ [])

unfoldable pub too_long_text : List ℕ
too_long_text = codes "too long\n"
