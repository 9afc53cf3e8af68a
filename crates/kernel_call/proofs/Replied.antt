-- What a call leaves once it has its reply, and what is so of the work of a call that was left out.
use Rattle.std.proofs.Common.{◌≡◌, ◌≢◌, ◌≤◌, ◌+◌, ◌∙◌, ℕ, false, arith, Option, Some, None, refl, ap, sym, subst}
use Rattle.std.specs.Prelude.{IfSome}
use Rattle.thread_set.specs.Models.{threads_model}
use Rattle.irq_partition.specs.Interrupts.{Interrupts}
use Rattle.kernel_clone.specs.declared.operation.Call.{Call}
use Rattle.kernel_clone.specs.declared.operation.Call.TheVariants as call
use Rattle.kernel_clone.specs.Footprints.{WorkDone, call_number, is_of_switch}
use Rattle.pad_bound.specs.Worst.{IsCallWork}
use Rattle.call_table.specs.declared.Reply.{Reply}
use Rattle.kernel_call.specs.declared.domain.Domain.{Domain}
use Rattle.kernel_call.specs.declared.log.Log.{Log}
use Rattle.kernel_call.specs.Facts.{KeepsRest, nothing}
use Rattle.kernel_call.specs.Calls.{KeepsParts, IsRefused, answered}

-- what is so anyway is so of a refusal
pub if_refused : (reply : Option Reply) {A : Type 0} → A → IfSome reply (λ r. r.code ≢ 0 → A)
if_refused None a = tt
if_refused (Some r) a = λ _. a

pub keeps_replied : (old mid new : Domain) → KeepsRest old mid → KeepsParts mid new → KeepsParts old new
keeps_replied old mid new rest keeps = record {
  map = keeps.map ∙ rest.map;
  tables = keeps.tables ∙ rest.tables;
  kept = keeps.kept ∙ rest.kept;
  layout = keeps.layout ∙ rest.layout;
  calls = keeps.calls ∙ rest.calls;
  number = keeps.number ∙ rest.number;
  moments = keeps.moments ∙ ap (λ (i : Interrupts). i.moments) rest.interrupts;
  delivered = keeps.delivered ∙ ap (λ (i : Interrupts). i.delivered) rest.interrupts;
  retired = keeps.retired ∙ rest.retired;
  readings = keeps.readings ∙ rest.readings;
  replies = subst (λ (log : Log Reply). new.replies.count ≤ log.count + 2) rest.replies keeps.replies;
}

-- a refusal leaves the domain as it was but for its reply
module _ (old mid new : Domain) (same : mid ≡ old) where
  pub refused_replied : (code : ℕ) (given reply : Reply) → given ≡ record { code = code; value = 0 }
      → reply ≡ given
      → new.status ≡ mid.status
      → threads_model new.threads ≡ record (threads_model mid.threads) { current = answered mid.threads.active given }
      → new.interrupts ≡ mid.interrupts → new.caps ≡ mid.caps → new.pool ≡ mid.pool → new.printed ≡ mid.printed
      → IsRefused old new reply
  refused_replied code given reply told is status threads interrupts caps pool printed =
      subst (λ (d : Domain). IsRefused d new reply) same (record {
        value = ap (λ (r : Reply). r.value) (is ∙ told);
        status = status;
        threads = threads ∙ ap (λ (r : Reply). record (threads_model mid.threads) { current = answered mid.threads.active r }) (sym is);
        interrupts = interrupts;
        caps = caps;
        pool = pool;
        printed = printed;
      })

-- no operation of a call is one of a switch
own_number : (c : Call) → is_of_switch (call_number c) ≡ false
own_number call.Exit = refl
own_number call.Put = refl
own_number call.Alloc = refl
own_number call.Table = refl
own_number call.Map = refl
own_number call.Unmap = refl
own_number call.Copy = refl
own_number call.Delete = refl
own_number call.Revoke = refl
own_number call.Poll = refl
own_number call.Wait = refl
own_number call.Signal = refl
own_number call.Spawn = refl
own_number call.Yield = refl
own_number call.EndThread = refl
own_number call.Send = refl
own_number call.Receive = refl

pub no_work_bounded : (c : Call) (w : WorkDone) → w ≡ nothing (call_number c) → IsCallWork w
no_work_bounded c w is = subst IsCallWork (sym is) (record { call = own_number c; zeroes = λ f some. absurd (cc some); few = omega arith })
