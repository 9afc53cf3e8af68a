-- Calls on mailboxes of the code, and those of the definition.
use Rattle.std.proofs.Common.{◌≡◌, ◌∙◌, ◌≤◌, ℕ, true, false, Bool, List, length, Some, refl, sym, ap, subst}
use Rattle.std.specs.Prelude.{◌&&◌, Result, Ok}
use Rattle.tp_base.specs.Act.{Done, either}
use Rattle.phys_mem.specs.Contents.{Contents}
use Rattle.phys_mem.specs.Mem.{Mem}
use Rattle.kernel_clone.specs.Footprints.{WorkDone}
use Rattle.kernel_clone.specs.Models.{work_model}
use Rattle.kernel_clone.specs.Permissions.{is_mail}
use Rattle.kernel_clone.specs.declared.Work.{Work}
use Rattle.mail_slots.specs.declared.refusal.MailRefusal.{MailRefusal}
use Rattle.mail_slots.specs.Boxes.{Boxes, send, Received, receive}
use Rattle.call_table.specs.declared.Reply.{Reply}
use Rattle.call_table.specs.Domain.{Dom, replied, reply_past}
use Rattle.call_table.specs.Claims.{Estate}
use Rattle.call_table.specs.Calls.{Note, call_of, is_done, work_of, empties, empties_buffer, zeroed_in, entries_in}
use Rattle.call_table.specs.Mail.{Storage, MailDone, mail_error, not_done, has_sent, send_word, has_received, receive_word, on_boxes, on_memory, called_of}
use Rattle.call_table.proofs.WorkSteps.{last_reply}
use Rattle.call_table.proofs.MailCalls.{Kind, kind_of, mail_op, clears_none}
use Rattle.kernel_call.specs.declared.domain.Domain.{Domain}
use Rattle.kernel_call.specs.declared.outcome.Outcome.{Outcome}
use Rattle.kernel_call.specs.Models.{Stands}
use Rattle.kernel_call.specs.Facts.{HasFacts, nothing}
use Rattle.kernel_call.specs.Calls.{IsCalled}
use Rattle.kernel_call.specs.Mailboxes.{ComesTo, HasCalled}

-- ---- the call of a number

module _ (e : Estate) (d : Dom) (a b c : ℕ) (s : Storage) where
  pub sends : (n : ℕ) → n ≡ 19 → called_of e d n a b c s ≡ on_boxes s (send_word e d a b s.boxes)
  unfolding called_of
  sends n is = ap (λ (k : ℕ). called_of e d k a b c s) is

  pub receives : (n : ℕ) → n ≡ 20 → called_of e d n a b c s ≡ on_boxes s (receive_word e d a s.boxes)
  unfolding called_of
  receives n is = ap (λ (k : ℕ). called_of e d k a b c s) is

  pub on_mem : (n : ℕ) → is_mail n ≡ false → called_of e d n a b c s ≡ on_memory s (call_of e d n a b c s.mem)
  unfolding called_of
  on_mem n none = elim (kind_of n) [
    | Kind.Sends is ↦ absurd (cc (sym (ap is_mail is) ∙ none))
    | Kind.Receives is ↦ absurd (cc (sym (ap is_mail is) ∙ none))
    | Kind.Others no_send no_receive ↦ rw (no_send, no_receive) refl
  ]

-- a call on mailboxes that is no SEND is a RECV
pub no_send : (n : ℕ) → is_mail n ≡ true → (n ≡ 19 → ⊥) → n ≡ 20
no_send n some other = elim (kind_of n) [
  | Kind.Sends is ↦ absurd (other is)
  | Kind.Receives is ↦ is
  | Kind.Others not_send not_receive ↦
      let none : is_mail n ≡ false = rw (not_send, not_receive) refl in absurd (cc (sym some ∙ none))
]

-- ---- by what the boxes answer

module _ (e : Estate) (x : Dom) (d a b : ℕ) (boxes later : Boxes) (same : e.number ≡ d) where
  pub refused_so : (r : MailRefusal) (reply : Reply) → later ≡ boxes
      → reply ≡ record { code = mail_error r; value = 0 } → ComesTo (not_done r x boxes) later reply x
  unfolding either
  refused_so r reply unchanged is = record {
    no_work = refl;
    boxes_are = sym unchanged;
    replies = ap (λ (y : Reply). replied y.code y.value x) (sym is);
  }

  pub sent_as : (reply : Reply) (o : Result Boxes MailRefusal) → send d a b boxes ≡ o
      → ComesTo (has_sent x boxes o) later reply x → ComesTo (send_word e x a b boxes) later reply x
  sent_as reply o is to =
      subst (λ (p : Result Boxes MailRefusal). ComesTo (has_sent x boxes p) later reply x)
      (sym (ap (λ (n : ℕ). send n a b boxes) same ∙ is)) to

  pub received_as : (reply : Reply) (o : Result Received MailRefusal) → receive d a boxes ≡ o
      → ComesTo (has_received x boxes o) later reply x → ComesTo (receive_word e x a boxes) later reply x
  received_as reply o is to =
      subst (λ (p : Result Received MailRefusal). ComesTo (has_received x boxes p) later reply x)
      (sym (ap (λ (n : ℕ). receive n a boxes) same ∙ is)) to

  pub sent_done : send d a b boxes ≡ Ok later
      → ComesTo (send_word e x a b boxes) later (record { code = 0; value = 0 }) x
  unfolding either
  sent_done is =
      sent_as (record { code = 0; value = 0 }) (Ok later) is (record { no_work = refl; boxes_are = refl; replies = refl })

  pub received_done : (word : ℕ) → receive d a boxes ≡ Ok (record { word = word; boxes = later })
      → ComesTo (receive_word e x a boxes) later (record { code = 0; value = word }) x
  unfolding either
  received_done word is =
      received_as (record { code = 0; value = word }) (Ok (record { word = word; boxes = later })) is
      (record { no_work = refl; boxes_are = refl; replies = refl })

-- ---- what it leaves

module _ (e : Estate) (s : Storage) (memory : Contents) (new : Domain) (boxes : Boxes) (n before : ℕ) where
  pub on_boxes_called : (d : Dom) (r : MailDone) (reply given : Reply) (work : Work) → ComesTo r boxes reply d
      → before ≤ length d.replies → given ≡ reply → Stands new (replied reply.code reply.value d)
      → HasFacts e memory s.mem new → work_model work ≡ nothing n → is_mail n ≡ true
      → HasCalled e memory boxes new n before (record { reply = Some given; work = work }) (on_boxes s r)
  unfolding empties work_of zeroed_in entries_in
  on_boxes_called d r reply given work to had same stands facts did some =
      let last : Some reply ≡ reply_past before (either r.value) =
      sym (ap (reply_past before) to.replies ∙ last_reply d before reply.code reply.value had) in
      record {
        dom = subst (Stands new) (sym to.replies) stands;
        facts = facts;
        mail = sym to.boxes_are;
        work = did
            ∙ ap (λ (op : ℕ). nothing op) (sym (mail_op n some))
            ∙ ap (λ (notes : List Note). work_of n notes) (sym to.no_work);
        reply = ap Some same ∙ last;
        buffer = ap (λ (op : ℕ). empties_buffer op (Some given)) (ap (λ (w : WorkDone). w.op) did)
            ∙ ap (λ (t : Bool). t && is_done (Some given)) (clears_none n (kind_of n) some)
            ∙ sym (ap empties to.no_work);
      }

  pub on_memory_called : (outcome : Outcome) (r : Done Mem Note Dom Dom) → boxes ≡ s.boxes → IsCalled e memory new n before outcome r
      → HasCalled e memory boxes new n before outcome (on_memory s r)
  on_memory_called outcome r same called = record {
    dom = called.dom;
    facts = called.facts;
    mail = same;
    work = called.work;
    reply = called.reply;
    buffer = called.buffer;
  }
