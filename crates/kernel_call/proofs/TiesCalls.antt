-- A call by its number, and what is left after its reply.
use Rattle.std.proofs.Common.{◌≡◌, ◌≢◌, ℕ, ◌<◌, ◌≤◌, ◌/◌, ◌^◌, take, Bool, true, false, ◌&&◌, List, [], length, Option, Some, None, Ok, Err, ◌⊎◌, refl, ap, sym, subst, ◌∙◌, arith}
use Rattle.std.specs.Prelude.{nat_eq, if◌then◌else◌, Result, All, IfSome}
use Rattle.std.proofs.lemmas.List.{length-take}
use Rattle.std.proofs.lemmas.List.Elements.{All-weaker}
use Rattle.tp_base.specs.Ranges.{IsFrameNo}
use Rattle.tp_base.specs.Act as act
use Rattle.tp_base.specs.Act.{stop, give, either}
use Rattle.phys_mem.specs.Contents.{Contents}
use Rattle.phys_mem.specs.Mem.{Mem}
use Rattle.kernel_clone.specs.declared.operation.Call.{Call}
use Rattle.kernel_clone.specs.declared.operation.Call.TheVariants as call
use Rattle.kernel_clone.specs.Footprints.{WorkDone, call_number, bad_call_op}
use Rattle.kernel_clone.specs.declared.Work.{Work}
use Rattle.kernel_clone.specs.Models.{work_model, IsWork}
use Rattle.kernel_clone.specs.Permissions.{is_call, is_of_memory}
use Rattle.kernel_clone.proofs.CallLaws.{differ}
use Rattle.cap_table.specs.Slots.{Slots}
use Rattle.call_table.specs.Domain.{Dom, reply_past, placed, replied}
use Rattle.call_table.specs.Claims.{Estate, is_mine, claims, Facts}
use Rattle.call_table.specs.Calls.{Note, call_of, op_of, work_of, zeroed_in, entries_in, empties, clears_entries, is_done, empties_buffer}
use Rattle.call_table.specs.Laws.{LeavesKept, IsMine}
use Rattle.pad_bound.specs.Worst.{IsCallWork, writes_entry, most_entries_of}
use Rattle.call_table.proofs.CallLawsDelete.{call_of_keeps}
use Rattle.call_table.proofs.WorkSteps.{last_reply}
use Rattle.call_table.proofs.BoundedWork.{LiesInOwn, call_of_bounded}
use Rattle.call_table.proofs.TablesMeaning.{mine_is_own}
use Rattle.call_table.specs.declared.Reply.{Reply}
use Rattle.kernel_call.specs.declared.domain.Domain.{Domain}
use Rattle.kernel_call.specs.declared.error.CallError.{CallError}
use Rattle.kernel_call.specs.declared.outcome.Outcome.{Outcome}
use Rattle.kernel_call.specs.Models.{dom_model, Stands}
use Rattle.kernel_call.specs.Facts.{Done, HasFacts, code_of, Ends}
use Rattle.kernel_call.specs.Calls.{IsCalled}
use Rattle.kernel_call.specs.Threads.{IsAnswered}
use Rattle.kernel_call.proofs.Ties.{kept_facts, has_still}

-- the call of this number is that action
pub performed : (number k : ℕ) (e : Estate) (old new : Domain) (memory : Contents) (readings : List ℕ)
    (replies : List Reply) (m : Mem)
    (result : Result Done CallError) (a b c : ℕ) (r : act.Done Mem Note Dom Dom)
    → number ≡ k → call_of e (dom_model old readings replies) k a b c m ≡ r → Ends k e old new memory readings replies result r
    → Ends number e old new memory readings replies result (call_of e (dom_model old readings replies) number a b c m)
performed number k e old new memory readings replies m result a b c r is same ends =
    subst (λ (n : ℕ). Ends n e old new memory readings replies result (call_of e (dom_model old readings replies) n a b c m)) (sym is)
    (subst (λ (r : act.Done Mem Note Dom Dom). Ends k e old new memory readings replies result r) (sym same) ends)

-- the last call on memory, where it is none of the others
pub last_on_memory : (c : Call) → is_of_memory (call_number c) ≡ true → c ≢ call.Put → c ≢ call.Alloc
    → c ≢ call.Table → c ≢ call.Map
    → c ≢ call.Unmap → c ≢ call.Copy → c ≢ call.Delete → call_number c ≡ 8
last_on_memory call.Exit on p a t m u k d = absurd (cc on)
last_on_memory call.Put on p a t m u k d = absurd (p refl)
last_on_memory call.Alloc on p a t m u k d = absurd (a refl)
last_on_memory call.Table on p a t m u k d = absurd (t refl)
last_on_memory call.Map on p a t m u k d = absurd (m refl)
last_on_memory call.Unmap on p a t m u k d = absurd (u refl)
last_on_memory call.Copy on p a t m u k d = absurd (k refl)
last_on_memory call.Delete on p a t m u k d = absurd (d refl)
last_on_memory call.Revoke on p a t m u k d = refl
last_on_memory call.Poll on p a t m u k d = absurd (cc on)
last_on_memory call.Wait on p a t m u k d = absurd (cc on)
last_on_memory call.Signal on p a t m u k d = absurd (cc on)
last_on_memory call.Spawn on p a t m u k d = absurd (cc on)
last_on_memory call.Yield on p a t m u k d = absurd (cc on)
last_on_memory call.EndThread on p a t m u k d = absurd (cc on)
last_on_memory call.Send on p a t m u k d = absurd (cc on)
last_on_memory call.Receive on p a t m u k d = absurd (cc on)

-- the operation of a call's number is its own, and that of any other number one of a bad call
pub own_op : (c : Call) → op_of (call_number c) ≡ call_number c
own_op call.Exit = refl
own_op call.Put = refl
own_op call.Alloc = refl
own_op call.Table = refl
own_op call.Map = refl
own_op call.Unmap = refl
own_op call.Copy = refl
own_op call.Delete = refl
own_op call.Revoke = refl
own_op call.Poll = refl
own_op call.Wait = refl
own_op call.Signal = refl
own_op call.Spawn = refl
own_op call.Yield = refl
own_op call.EndThread = refl
own_op call.Send = refl
own_op call.Receive = refl

pub bad_op : (number : ℕ) → is_call number ≡ false → op_of number ≡ bad_call_op
bad_op number none = ap (λ (b : Bool). if b then number else bad_call_op) none

-- ---- the facts after a call

-- the parts that hold the facts are as they were
pub facts_still : (e : Estate) (memory : Contents) (m : Mem) (old new : Domain) → HasFacts e memory m old
    → new.map ≡ old.map → new.calls ≡ old.calls → new.number ≡ old.number → new.pool ≡ old.pool → new.caps ≡ old.caps
    → HasFacts e memory m new
facts_still e memory m old new h map calls number pool caps = record {
  estate = h.estate;
  frames = h.frames;
  has = has_still e old new h.has map calls number pool caps;
  holds = h.holds;
  facts = subst (λ (s : Slots). Facts e.root (is_mine e) (claims e s) m) (sym caps) h.facts;
}

module _ (number : ℕ) (e : Estate) (old new : Domain) (memory next : Contents) (readings : List ℕ) (replies : List Reply) (m : Mem)
    (a b c : ℕ) (h : HasFacts e memory m old) (frames : next.frames ≡ memory.frames) where
  leaves_kept : LeavesKept e (call_of e (dom_model old readings replies) number a b c m)
  leaves_kept = call_of_keeps e (dom_model old readings replies) m number a b c h.estate (kept_facts e memory m old readings replies h)

  pub facts_done : (x : Done)
      → Ends number e old new next readings replies (Ok x) (call_of e (dom_model old readings replies) number a b c m)
      → HasFacts e next (call_of e (dom_model old readings replies) number a b c m).state new
  unfolding either replied placed
  facts_done x ends = record {
    estate = h.estate;
    frames = h.frames ∙ sym frames;
    has = ends.has;
    holds = ends.holds;
    facts = subst (λ (v : Dom ⊎ Dom).
        Facts e.root (is_mine e) (claims e (either v).caps) (call_of e (dom_model old readings replies) number a b c m).state)
        ends.value leaves_kept.facts;
  }

  pub facts_refused : (x : CallError)
      → Ends number e old new next readings replies (Err x) (call_of e (dom_model old readings replies) number a b c m)
      → new.caps ≡ old.caps
      → HasFacts e next (call_of e (dom_model old readings replies) number a b c m).state new
  unfolding either replied placed
  facts_refused x ends same = record {
    estate = h.estate;
    frames = h.frames ∙ sym frames;
    has = ends.has;
    holds = ends.holds;
    facts = subst (λ (s : Slots).
        Facts e.root (is_mine e) (claims e s) (call_of e (dom_model old readings replies) number a b c m).state) (sym same)
        (subst (λ (v : Dom ⊎ Dom).
        Facts e.root (is_mine e) (claims e (either v).caps) (call_of e (dom_model old readings replies) number a b c m).state)
        ends.value leaves_kept.facts);
  }

-- ---- what a call comes to

-- the operation of a call says as much of the buffer as its number
clears_op : (number : ℕ) → clears_entries (op_of number) ≡ clears_entries number
clears_op number = by_test (is_call number) refl
  where
    by_test : (b : Bool) → is_call number ≡ b
        → clears_entries (if b then number else bad_call_op) ≡ clears_entries number
    by_test true is = refl
    by_test false none =
        rw (differ number 5 false none refl, differ number 7 false none refl, differ number 8 false none refl) refl

pub same_buffer : (number op : ℕ) (reply : Option Reply) → op ≡ op_of number
    → empties_buffer op reply ≡ empties_buffer number reply
same_buffer number op reply is = ap (λ (t : Bool). t && is_done reply) (ap clears_entries is ∙ clears_op number)

-- what the outcome says of the buffer
tells_buffer : (number before : ℕ) (outcome : Outcome) (r : act.Done Mem Note Dom Dom)
    → work_model outcome.work ≡ work_of number r.notes
    → outcome.reply ≡ reply_past before (either r.value)
    → empties r.notes ≡ empties_buffer number (reply_past before (either r.value))
    → empties_buffer outcome.work.op outcome.reply ≡ empties r.notes
unfolding work_of
tells_buffer number before outcome r did answers emptied =
    same_buffer number outcome.work.op outcome.reply (ap (λ (w : WorkDone). w.op) did)
    ∙ ap (empties_buffer number) answers
    ∙ sym emptied

-- a call that leaves memory alone
pub called_answered : (number : ℕ) (e : Estate) (new : Domain) (memory : Contents) (m : Mem) (before : ℕ)
    (reply : Option Reply) (work : Work)
    (r : act.Done Mem Note Dom Dom) → IsAnswered m before reply new r → HasFacts e memory m new
    → work_model work ≡ record { op = op_of number; zeroed = None; entries = [] }
    → empties r.notes ≡ empties_buffer number (reply_past before (either r.value))
    → IsCalled e memory new number before (record { reply = reply; work = work }) r
unfolding work_of zeroed_in entries_in
called_answered number e new memory m before reply work r h facts did emptied =
    let works : work_model work ≡ work_of number r.notes = did ∙ ap (λ (notes : List Note). work_of number notes) (sym h.notes) in
    record {
      dom = h.dom;
      facts = subst (λ (m : Mem). HasFacts e memory m new) (sym h.state) facts;
      work = works;
      reply = h.reply_is;
      buffer = tells_buffer number before (record { reply = reply; work = work }) r works h.reply_is emptied;
    }

pub called_done : (number : ℕ) (e : Estate) (old new last : Domain) (memory : Contents) (readings : List ℕ)
    (replies : List Reply)
    (x : Done) (reply : Reply) (r : act.Done Mem Note Dom Dom)
    → Ends number e old new memory readings replies (Ok x) r → HasFacts e memory r.state last
    → Stands last (replied 0 x.value (dom_model new readings replies))
    → reply ≡ record { code = 0; value = x.value }
    → empties r.notes ≡ empties_buffer number (reply_past (length replies) (either r.value))
    → IsCalled e memory last number (length replies) (record { reply = Some reply; work = x.work }) r
unfolding either
called_done number e old new last memory readings replies x reply r ends h stands is emptied =
    let outcome : Outcome = record { reply = Some reply; work = x.work } in
    let answers : Some reply ≡ reply_past (length replies) (either r.value) =
    ap Some is
    ∙ sym (ap (λ (v : Dom ⊎ Dom). reply_past (length replies) (either v)) ends.value
    ∙ last_reply (dom_model new readings replies) (length replies) 0 x.value (omega arith)) in
    record {
      dom = subst (λ (v : Dom ⊎ Dom). Stands last (either v)) (sym ends.value) stands;
      facts = h;
      work = ends.work;
      reply = answers;
      buffer = tells_buffer number (length replies) outcome r ends.work answers emptied;
    }

pub called_refused : (number : ℕ) (e : Estate) (old new last : Domain) (memory : Contents) (readings : List ℕ)
    (replies : List Reply)
    (x : CallError) (given reply : Reply) (work : Work) (r : act.Done Mem Note Dom Dom)
    → Ends number e old new memory readings replies (Err x) r → HasFacts e memory r.state last
    → given ≡ record { code = code_of x; value = 0 } → reply ≡ given → new ≡ old
    → Stands last (replied given.code given.value (dom_model new readings replies))
    → work_model work ≡ record { op = op_of number; zeroed = None; entries = [] }
    → empties r.notes ≡ empties_buffer number (reply_past (length replies) (either r.value))
    → IsCalled e memory last number (length replies) (record { reply = Some reply; work = work }) r
unfolding either work_of zeroed_in entries_in
called_refused number e old new last memory readings replies x given reply work r ends h told is same stands did emptied =
    let outcome : Outcome = record { reply = Some reply; work = work } in
    let works : work_model work ≡ work_of number r.notes = did ∙ ap (λ (notes : List Note). work_of number notes) (sym ends.work) in
    let answers : Some reply ≡ reply_past (length replies) (either r.value) =
    ap Some (is ∙ told)
    ∙ sym (ap (λ (v : Dom ⊎ Dom). reply_past (length replies) (either v)) ends.value
    ∙ last_reply (dom_model old readings replies) (length replies) (code_of x) 0 (omega arith)) in
    record {
      dom = subst (λ (v : Dom ⊎ Dom). Stands last (either v)) (sym ends.value)
          (subst (λ (g : Reply). Stands last (replied g.code g.value (dom_model old readings replies))) told
          (subst (λ (d : Domain). Stands last (replied given.code given.value (dom_model d readings replies))) same stands));
      facts = h;
      work = works;
      reply = answers;
      buffer = tells_buffer number (length replies) outcome r works answers emptied;
    }

-- ---- what the code tells of its work

-- it is the definition's, so its operation is that of the number, and it is bounded
pub told_work : (number : ℕ) (e : Estate) (old new : Domain) (memory : Contents) (readings : List ℕ)
    (replies : List Reply) (m : Mem)
    (x : Done) (a b c : ℕ)
    → Ends number e old new memory readings replies (Ok x) (call_of e (dom_model old readings replies) number a b c m)
    → (x.work.op ≡ op_of number) × IsCallWork (work_model x.work)
unfolding work_of
told_work number e old new memory readings replies m x a b c ends = (
  ap (λ (w : WorkDone). w.op) ends.work,
  subst IsCallWork (sym ends.work) (call_of_bounded e (dom_model old readings replies) m number a b c),
)

-- no operation writes more entries than a REVOKE
few_entries : (op : ℕ) → most_entries_of op ≤ 63
few_entries op = by_test (nat_eq op 8) (writes_entry op)
  where
    by_test : (revokes writes : Bool) → (if revokes then 63 else if writes then 1 else 0) ≤ 63
    by_test true writes = omega arith
    by_test false true = omega arith
    by_test false false = omega arith

-- its frame and its entries are the domain's own, so they lie in memory
module _ (e : Estate) (few : e.share.frames ≤ 2 ^ 15) where
  own_frame : (f : ℕ) → IsMine e f → f < 2 ^ 15
  own_frame f own = let within = (mine_is_own e f own).below in omega (arith, within, few)

  zeroed_frame_no : (o : Option ℕ) → ((f : ℕ) → o ≡ Some f → IsMine e f) → IfSome o IsFrameNo
  zeroed_frame_no None own = tt
  zeroed_frame_no (Some f) own = own_frame f (own f refl)

  entry_below : (at : ℕ) → IsMine e (at / 4096) → at < 2 ^ 27
  entry_below at own = let within = own_frame (at / 4096) own in omega (arith, within)

  pub work_in_memory : (number : ℕ) (notes : List Note) (w : Work) → length w.entries ≡ 64
      → work_model w ≡ work_of number notes
      → IsCallWork (work_model w) → LiesInOwn e notes → IsWork w
  unfolding work_of
  work_in_memory number notes w long is bounded own = record {
    zeroed = zeroed_frame_no w.zeroed (λ f there. own.zeroed f (sym (ap (λ (x : WorkDone). x.zeroed) is) ∙ there));
    few = let most = few_entries w.op in omega (arith, bounded.few, most, long, length-take w.count w.entries);
    entries = All-weaker (λ at. IsMine e (at / 4096)) (λ at. at < 2 ^ 27) entry_below (take w.count w.entries)
        (subst (All (λ at. IsMine e (at / 4096))) (sym (ap (λ (x : WorkDone). x.entries) is)) own.entries);
  }
