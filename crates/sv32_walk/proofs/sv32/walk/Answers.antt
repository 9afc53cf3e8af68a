-- A walk, by what its steps found.
use Rattle.std.proofs.Common.{rules, arith, ◌≡◌, ◌∙◌, sym, ap, ap₂, [], ◌∷◌, length}
use Rattle.std.specs.Prelude.{None, Err}
use Rattle.phys_mem.specs.Mem.{Mem}
use Rattle.phys_mem.specs.Holds.{Holds}
use Rattle.sv32_walk.specs.declared.access.WalkFault.TheVariants as fault
use Rattle.sv32_walk.specs.Walk.{Walk, walk, last_level, entry_address, padded}
use Rattle.sv32_walk.proofs.WalkSteps.{no_root, one_read, no_table, two_reads}
use Rattle.sv32_walk.proofs.sv32.walk.Goals as goal

-- ---- the root lies outside memory

pub returns-then-root-frames-clause-result : goal.returns-then-root-frames-clause-result
returns-then-root-frames-clause-result c = λ m holds.
    sym (ap (λ (w : Walk). w.result) (no_root m c.args.mem.now.frames c.args.root c.args.va c.args.access (omega arith)))

pub returns-then-root-frames-clause-reads : goal.returns-then-root-frames-clause-reads
returns-then-root-frames-clause-reads c = λ m holds.
    sym (ap (λ (w : Walk). padded w.reads) (no_root m c.args.mem.now.frames c.args.root c.args.va c.args.access (omega arith)))

pub returns-then-root-frames-clause-count : goal.returns-then-root-frames-clause-count
returns-then-root-frames-clause-count c = λ m holds.
    sym (ap (λ (w : Walk). length w.reads) (no_root m c.args.mem.now.frames c.args.root c.args.va c.args.access (omega arith)))

-- ---- the first entry ends it

ended : (c : goal.After-after_one_read) (m : Mem) → Holds c.args.mem.now m
    → walk m c.args.mem.now.frames c.args.root c.args.va c.args.access
    ≡ record { result = c.in-Some.result; reads = entry_address c.args.root c.first_index.result ∷ [] }
ended c m holds =
    rw (← c.frames-frames.ensures.value)
    (one_read m c.frames-frames.result c.args.root c.args.va c.args.access (omega arith) c.first_index.result
    c.read_entry-first_at.result.1.0
    c.first_index.ensures.value (c.read_entry-first_at.ensures.entry m holds) c.in-Some.result
    (sym c.first_level.ensures.value ∙ c.in-Some.is))

pub returns-in-Some-clause-result : goal.returns-in-Some-clause-result
returns-in-Some-clause-result c = λ m holds. c.after_one_read.ensures.end ∙ sym (ap (λ (w : Walk). w.result) (ended c m holds))

pub returns-in-Some-clause-reads : goal.returns-in-Some-clause-reads
returns-in-Some-clause-reads c = λ m holds.
    c.after_one_read.ensures.reads ∙ ap (λ at. at ∷ 0 ∷ []) c.read_entry-first_at.ensures.address
    ∙ sym (ap (λ (w : Walk). padded w.reads) (ended c m holds))

pub returns-in-Some-clause-count : goal.returns-in-Some-clause-count
returns-in-Some-clause-count c = λ m holds.
    c.after_one_read.ensures.count ∙ sym (ap (λ (w : Walk). length w.reads) (ended c m holds))

-- ---- the table lies outside memory

outside : (c : goal.After-after_one_read-then-table-frames) (m : Mem) → Holds c.args.mem.now m
    → walk m c.args.mem.now.frames c.args.root c.args.va c.args.access
    ≡ record { result = Err fault.Access; reads = entry_address c.args.root c.first_index.result ∷ [] }
outside c m holds =
    let none : c.first_level.result ≡ None = search rules in
    rw (← c.frames-frames.ensures.value)
    (no_table m c.frames-frames.result c.args.root c.args.va c.args.access (omega arith) c.first_index.result
    c.read_entry-first_at.result.1.0
    c.first_index.ensures.value (c.read_entry-first_at.ensures.entry m holds) c.frame-table.result c.frame-table.ensures.value
    (sym c.first_level.ensures.value ∙ none) (omega arith))

pub returns-then-table-frames-clause-result : goal.returns-then-table-frames-clause-result
returns-then-table-frames-clause-result c = λ m holds.
    c.after_one_read-then-table-frames.ensures.end ∙ sym (ap (λ (w : Walk). w.result) (outside c m holds))

pub returns-then-table-frames-clause-reads : goal.returns-then-table-frames-clause-reads
returns-then-table-frames-clause-reads c = λ m holds.
    c.after_one_read-then-table-frames.ensures.reads ∙ ap (λ at. at ∷ 0 ∷ []) c.read_entry-first_at.ensures.address
    ∙ sym (ap (λ (w : Walk). padded w.reads) (outside c m holds))

pub returns-then-table-frames-clause-count : goal.returns-then-table-frames-clause-count
returns-then-table-frames-clause-count c = λ m holds.
    c.after_one_read-then-table-frames.ensures.count ∙ sym (ap (λ (w : Walk). length w.reads) (outside c m holds))

-- ---- the second entry ends it

whole : (c : goal.After-last_level-result) (m : Mem) → Holds c.args.mem.now m
    → walk m c.args.mem.now.frames c.args.root c.args.va c.args.access
    ≡ record {
      result = last_level c.frames-frames.result c.args.access c.read_entry-second_at.result.1.0;
      reads = entry_address c.args.root c.first_index.result ∷ entry_address c.frame-table.result c.second_index.result ∷ [];
    }
whole c m holds =
    let none : c.first_level.result ≡ None = search rules in
    rw (← c.frames-frames.ensures.value)
    (two_reads m c.frames-frames.result c.args.root c.args.va c.args.access (omega arith) c.first_index.result
    c.read_entry-first_at.result.1.0
    c.first_index.ensures.value (c.read_entry-first_at.ensures.entry m holds) c.frame-table.result c.frame-table.ensures.value
    (sym c.first_level.ensures.value ∙ none) c.second_index.result c.read_entry-second_at.result.1.0 c.second_index.ensures.value
    (c.read_entry-second_at.ensures.entry m holds) (omega arith))

pub returns-clause-result : goal.returns-clause-result
returns-clause-result c = λ m holds. c.last_level-result.ensures.value ∙ sym (ap (λ (w : Walk). w.result) (whole c m holds))

pub returns-clause-reads : goal.returns-clause-reads
returns-clause-reads c = λ m holds.
    ap₂ (λ first second. first ∷ second ∷ []) c.read_entry-first_at.ensures.address c.read_entry-second_at.ensures.address
    ∙ sym (ap (λ (w : Walk). padded w.reads) (whole c m holds))

pub returns-clause-count : goal.returns-clause-count
returns-clause-count c = λ m holds. sym (ap (λ (w : Walk). length w.reads) (whole c m holds))
