use Rattle.std.proofs.Common.{arith, ◌≡◌, ◌≤◌, ◌^◌, ℕ, [], length, None, refl, ap, sym, subst₂, ◌∙◌}
use Rattle.std.specs.Prelude.{slice_index}
use Rattle.kernel_clone.specs.Footprints.{WorkDone, call_number}
use Rattle.kernel_clone.specs.Models.{work_model}
use Rattle.kernel_clone.specs.declared.Work.{Work}
use Rattle.call_table.specs.Calls.{call_of}
use Rattle.call_table.proofs.BoundedWork.{call_of_empties, call_of_own}
use Rattle.kernel_call.specs.LogModel.{log_model}
use Rattle.call_table.specs.declared.Reply.{Reply}
use Rattle.phys_mem.specs.Contents.{Contents}
use Rattle.kernel_call.specs.Models.{dom_model}
use Rattle.kernel_call.specs.Facts.{HasFacts}
use Rattle.kernel_call.specs.declared.domain.Domain.{Domain}
use Rattle.kernel_call.proofs.TiesCalls.{facts_still, facts_done, facts_refused, called_answered, called_done, called_refused, told_work, own_op, work_in_memory}
use Rattle.kernel_call.proofs.Ties.{kept_facts}
use Rattle.kernel_call.proofs.Replied.{if_refused, keeps_replied, refused_replied, no_work_bounded}
use Rattle.kernel_call.proofs.calls.make.Goals as goal

pub returns-then-leaves_memory-clause-calls : goal.returns-then-leaves_memory-clause-calls
returns-then-leaves_memory-clause-calls c e readings replies m h logged kept =
    called_answered (call_number c.args.call) e c.call_without_memory.new.domain c.args.memory.now m
    (length replies) c.call_without_memory.result c.no_work-work.result _
    (c.call_without_memory.ensures.answers e readings replies m logged kept)
    (facts_still e c.args.memory.now m c.args.domain.now c.call_without_memory.new.domain h
    c.call_without_memory.ensures.keeps.map c.call_without_memory.ensures.keeps.calls c.call_without_memory.ensures.keeps.number
    c.call_without_memory.ensures.pool c.call_without_memory.ensures.caps)
    (c.no_work-work.ensures.work ∙ ap (λ (op : ℕ). record { op = op; zeroed = None; entries = [] }) (sym (own_op c.args.call)))
    (call_of_empties e (dom_model c.args.domain.now readings replies) m (call_number c.args.call)
    (slice_index c.args.args 0) (slice_index c.args.args 1) (slice_index c.args.args 2))

pub returns-in-Ok-clause-calls : goal.returns-in-Ok-clause-calls
returns-in-Ok-clause-calls c e readings replies m h logged kept =
    let ends = c.in-Ok.ensures.does e readings replies m h in
    called_done (call_number c.args.call) e c.args.domain.now c.perform.new.domain c.reply_to.new.domain
    c.perform.new.memory readings replies
    (record { value = c.in-Ok.value; work = c.perform.new.work }) c.reply_to.result _ ends
    (facts_still e c.perform.new.memory _ c.perform.new.domain c.reply_to.new.domain
    (facts_done (call_number c.args.call) e c.args.domain.now c.perform.new.domain c.args.memory.now c.perform.new.memory readings replies m
    (slice_index c.args.args 0) (slice_index c.args.args 1) (slice_index c.args.args 2) h
    c.in-Ok.ensures.frames (record { value = c.in-Ok.value; work = c.perform.new.work }) ends)
    c.reply_to.ensures.keeps.map c.reply_to.ensures.keeps.calls c.reply_to.ensures.keeps.number c.reply_to.ensures.pool c.reply_to.ensures.caps)
    (c.reply_to.ensures.becomes readings replies
    (ap log_model c.in-Ok.ensures.rest.readings ∙ logged) (ap log_model c.in-Ok.ensures.rest.replies ∙ kept))
    c.reply_to.ensures.reply
    (call_of_empties e (dom_model c.args.domain.now readings replies) m (call_number c.args.call)
    (slice_index c.args.args 0) (slice_index c.args.args 1) (slice_index c.args.args 2))

pub returns-in-Ok-clause-valid : goal.returns-in-Ok-clause-valid
returns-in-Ok-clause-valid c =
    let v = c.requires.valid in
    record {
      estate = v.estate;
      mem = (call_of v.estate (dom_model c.args.domain.now [] []) (call_number c.args.call)
          (slice_index c.args.args 0) (slice_index c.args.args 1) (slice_index c.args.args 2) v.mem).state;
      facts = facts_still v.estate c.perform.new.memory _ c.perform.new.domain c.reply_to.new.domain
          (facts_done (call_number c.args.call) v.estate c.args.domain.now c.perform.new.domain
          c.args.memory.now c.perform.new.memory [] [] v.mem
          (slice_index c.args.args 0) (slice_index c.args.args 1) (slice_index c.args.args 2) v.facts
          c.in-Ok.ensures.frames (record { value = c.in-Ok.value; work = c.perform.new.work })
          (c.in-Ok.ensures.does v.estate [] [] v.mem v.facts))
          c.reply_to.ensures.keeps.map c.reply_to.ensures.keeps.calls c.reply_to.ensures.keeps.number c.reply_to.ensures.pool c.reply_to.ensures.caps;
    }

pub returns-in-Err-clause-calls : goal.returns-in-Err-clause-calls
returns-in-Err-clause-calls c e readings replies m h logged kept =
    let ends = c.in-Err.ensures.does e readings replies m h in
    called_refused (call_number c.args.call) e c.args.domain.now c.perform.new.domain
    c.reply_to-in-Err.new.domain c.perform.new.memory readings replies
    c.in-Err.error c.reply.result c.reply_to-in-Err.result c.perform.new.work _ ends
    (facts_still e c.perform.new.memory _ c.perform.new.domain c.reply_to-in-Err.new.domain
    (facts_refused (call_number c.args.call) e c.args.domain.now c.perform.new.domain c.args.memory.now
    c.perform.new.memory readings replies m
    (slice_index c.args.args 0) (slice_index c.args.args 1) (slice_index c.args.args 2) h c.in-Err.ensures.frames c.in-Err.error ends
    (ap (λ (d : Domain). d.caps) c.in-Err.ensures.unchanged))
    c.reply_to-in-Err.ensures.keeps.map c.reply_to-in-Err.ensures.keeps.calls c.reply_to-in-Err.ensures.keeps.number c.reply_to-in-Err.ensures.pool c.reply_to-in-Err.ensures.caps)
    c.reply.ensures.value c.reply_to-in-Err.ensures.reply c.in-Err.ensures.unchanged
    (c.reply_to-in-Err.ensures.becomes readings replies
    (ap log_model c.in-Err.ensures.rest.readings ∙ logged) (ap log_model c.in-Err.ensures.rest.replies ∙ kept))
    (ap (λ (w : Work). work_model w) c.in-Err.ensures.unwritten ∙ c.no_work-work.ensures.work
    ∙ ap (λ (op : ℕ). record { op = op; zeroed = None; entries = [] }) (sym (own_op c.args.call)))
    (call_of_empties e (dom_model c.args.domain.now readings replies) m (call_number c.args.call)
    (slice_index c.args.args 0) (slice_index c.args.args 1) (slice_index c.args.args 2))

pub returns-in-Ok-clause-operation : goal.returns-in-Ok-clause-operation
returns-in-Ok-clause-operation c =
    let v = c.requires.valid in
    (told_work (call_number c.args.call) v.estate c.args.domain.now c.perform.new.domain c.perform.new.memory
    [] [] v.mem (record { value = c.in-Ok.value; work = c.perform.new.work })
    (slice_index c.args.args 0) (slice_index c.args.args 1) (slice_index c.args.args 2)
    (c.in-Ok.ensures.does v.estate [] [] v.mem v.facts)).0
    ∙ own_op c.args.call

pub returns-in-Ok-clause-work : goal.returns-in-Ok-clause-work
returns-in-Ok-clause-work c =
    let v = c.requires.valid in
    (told_work (call_number c.args.call) v.estate c.args.domain.now c.perform.new.domain c.perform.new.memory
    [] [] v.mem (record { value = c.in-Ok.value; work = c.perform.new.work })
    (slice_index c.args.args 0) (slice_index c.args.args 1) (slice_index c.args.args 2)
    (c.in-Ok.ensures.does v.estate [] [] v.mem v.facts)).1

pub returns-in-Ok-clause-in_memory : goal.returns-in-Ok-clause-in_memory
returns-in-Ok-clause-in_memory c = λ few.
    let v = c.requires.valid in
    let ends = c.in-Ok.ensures.does v.estate [] [] v.mem v.facts in
    let long : length c.perform.new.work.entries ≡ 64 = c.has_places.ensures.places in
    let in_share : v.estate.share.frames ≤ 2 ^ 15 = omega (arith, few, v.facts.frames) in
    let bounded =
    (told_work (call_number c.args.call) v.estate c.args.domain.now c.perform.new.domain
    c.perform.new.memory [] [] v.mem (record { value = c.in-Ok.value; work = c.perform.new.work })
    (slice_index c.args.args 0) (slice_index c.args.args 1) (slice_index c.args.args 2) ends).1 in
    work_in_memory v.estate in_share (call_number c.args.call) _ c.perform.new.work long ends.work bounded
    (call_of_own v.estate (dom_model c.args.domain.now [] []) v.mem (call_number c.args.call)
    (slice_index c.args.args 0) (slice_index c.args.args 1) (slice_index c.args.args 2)
    (kept_facts v.estate c.args.memory.now v.mem c.args.domain.now [] [] v.facts))

pub returns-in-Err-clause-operation : goal.returns-in-Err-clause-operation
returns-in-Err-clause-operation c =
    ap (λ (w : Work). w.op) c.in-Err.ensures.unwritten ∙ ap (λ (w : WorkDone). w.op) c.no_work-work.ensures.work

pub returns-then-leaves_memory-clause-valid : goal.returns-then-leaves_memory-clause-valid
returns-then-leaves_memory-clause-valid c =
    let v = c.requires.valid in
    record {
      estate = v.estate;
      mem = v.mem;
      facts = facts_still v.estate c.args.memory.now v.mem c.args.domain.now c.call_without_memory.new.domain v.facts
          c.call_without_memory.ensures.keeps.map c.call_without_memory.ensures.keeps.calls c.call_without_memory.ensures.keeps.number
          c.call_without_memory.ensures.pool c.call_without_memory.ensures.caps;
    }

pub returns-then-leaves_memory-clause-keeps : goal.returns-then-leaves_memory-clause-keeps
returns-then-leaves_memory-clause-keeps c = c.call_without_memory.ensures.keeps

pub returns-then-leaves_memory-clause-frames : goal.returns-then-leaves_memory-clause-frames
returns-then-leaves_memory-clause-frames c = refl

pub returns-then-leaves_memory-clause-refused : goal.returns-then-leaves_memory-clause-refused
returns-then-leaves_memory-clause-refused c = c.call_without_memory.ensures.refused

pub returns-then-leaves_memory-clause-memory : goal.returns-then-leaves_memory-clause-memory
returns-then-leaves_memory-clause-memory c = if_refused c.call_without_memory.result refl

pub returns-then-leaves_memory-clause-operation : goal.returns-then-leaves_memory-clause-operation
returns-then-leaves_memory-clause-operation c = ap (λ (w : WorkDone). w.op) c.no_work-work.ensures.work

pub returns-then-leaves_memory-clause-work : goal.returns-then-leaves_memory-clause-work
returns-then-leaves_memory-clause-work c = no_work_bounded c.args.call _ c.no_work-work.ensures.work

pub returns-in-Ok-clause-keeps : goal.returns-in-Ok-clause-keeps
returns-in-Ok-clause-keeps c =
    keeps_replied c.args.domain.now c.perform.new.domain c.reply_to.new.domain c.in-Ok.ensures.rest
    c.reply_to.ensures.keeps

pub returns-in-Ok-clause-frames : goal.returns-in-Ok-clause-frames
returns-in-Ok-clause-frames c = c.in-Ok.ensures.frames

pub returns-in-Ok-clause-refused : goal.returns-in-Ok-clause-refused
returns-in-Ok-clause-refused c = λ failed. absurd (failed (ap (λ (r : Reply). r.code) c.reply_to.ensures.reply))

pub returns-in-Ok-clause-memory : goal.returns-in-Ok-clause-memory
returns-in-Ok-clause-memory c = λ failed. absurd (failed (ap (λ (r : Reply). r.code) c.reply_to.ensures.reply))

pub returns-in-Err-clause-valid : goal.returns-in-Err-clause-valid
returns-in-Err-clause-valid c =
    let v = c.requires.valid in
    record {
      estate = v.estate;
      mem = v.mem;
      facts = facts_still v.estate c.perform.new.memory v.mem c.perform.new.domain c.reply_to-in-Err.new.domain
          (subst₂ (λ (memory : Contents) (d : Domain). HasFacts v.estate memory v.mem d)
          (sym c.in-Err.ensures.memory) (sym c.in-Err.ensures.unchanged) v.facts)
          c.reply_to-in-Err.ensures.keeps.map c.reply_to-in-Err.ensures.keeps.calls c.reply_to-in-Err.ensures.keeps.number
          c.reply_to-in-Err.ensures.pool c.reply_to-in-Err.ensures.caps;
    }

pub returns-in-Err-clause-keeps : goal.returns-in-Err-clause-keeps
returns-in-Err-clause-keeps c =
    keeps_replied c.args.domain.now c.perform.new.domain c.reply_to-in-Err.new.domain c.in-Err.ensures.rest
    c.reply_to-in-Err.ensures.keeps

pub returns-in-Err-clause-frames : goal.returns-in-Err-clause-frames
returns-in-Err-clause-frames c = c.in-Err.ensures.frames

pub returns-in-Err-clause-refused : goal.returns-in-Err-clause-refused
returns-in-Err-clause-refused c = λ _.
    let told = c.reply_to-in-Err.ensures in
    refused_replied c.args.domain.now c.perform.new.domain c.reply_to-in-Err.new.domain
    c.in-Err.ensures.unchanged _ c.reply.result c.reply_to-in-Err.result
    c.reply.ensures.value told.reply told.status told.threads told.interrupts told.caps told.pool told.printed

pub returns-in-Err-clause-memory : goal.returns-in-Err-clause-memory
returns-in-Err-clause-memory c = λ _. c.in-Err.ensures.memory

pub returns-in-Err-clause-work : goal.returns-in-Err-clause-work
returns-in-Err-clause-work c =
    no_work_bounded c.args.call _
    (ap (λ (w : Work). work_model w) c.in-Err.ensures.unwritten ∙ c.no_work-work.ensures.work)
