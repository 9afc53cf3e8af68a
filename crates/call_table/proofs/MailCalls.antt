-- Calls on mailboxes, and so every call, over all that calls work on.
use Rattle.std.proofs.Common.{◌≡◌, ◌∙◌, ◌⊎◌, ℕ, ◌≤◌, Bool, true, false, true≢false, nat_eq, eqb-true, List, [], length, refl, sym, ap, subst, subst₂, lit≤, arith, inl, inr}
use Rattle.std.specs.Prelude.{◌&&◌, if◌then◌else◌, Result, Ok, Err}
use Rattle.std.specs.List.{All}
use Rattle.std.proofs.lemmas.List.Elements.{All-nil}
use Rattle.tp_base.specs.Act.{Done, either}
use Rattle.phys_mem.specs.Mem.{Mem, frame_at}
use Rattle.rv_core.specs.Registers.{register}
use Rattle.kernel_clone.specs.Footprints.{bad_call_op}
use Rattle.kernel_clone.specs.Permissions.{is_mail}
use Rattle.mail_slots.specs.declared.refusal.MailRefusal.{MailRefusal}
use Rattle.mail_slots.specs.declared.refusal.MailRefusal.TheVariants as refusal
use Rattle.mail_slots.specs.Boxes.{Boxes, send, Received, receive}
use Rattle.mail_slots.specs.Sides.{own_side, others_side}
use Rattle.mail_slots.specs.Laws.{sent_on_side, received_on_side, pairs_of}
use Rattle.mail_slots.proofs.Calls.{send_cases_law, receive_cases_law, send_keeps_law, receive_keeps_law}
use Rattle.mail_slots.proofs.Sides.{send_law, receive_law}
use Rattle.mail_slots.proofs.Moves.{pairs_law}
use Rattle.cap_table.specs.Slots.{Slots}
use Rattle.call_table.specs.Domain.{Dom, replied, refused, done, placed, reply_past}
use Rattle.call_table.specs.Claims.{Estate, is_mine, claims, Facts}
use Rattle.call_table.specs.Calls.{Note, call, clears_entries, is_done, empties, empties_buffer, op_of, work_of, number_made}
use Rattle.call_table.specs.Laws.{Kept, SameMine, IsOwnWork, KeepsWalks}
use Rattle.call_table.specs.Meanings.{argument_a, argument_b}
use Rattle.call_table.specs.Mail.{Storage, mail_error, has_sent, has_received, send_word, receive_word, on_boxes, on_memory, called_of, called}
use Rattle.call_table.specs.MailLaws.{Left, OnMemoryLaw, IsOnBoxes, OnBoxesLaw, StorageKeptLaw, PairsStayLaw, IsTurnedDown, TurnedDownLaw, UnmadeLaw, IsWithinOwn, WithinOwnLaw, StorageEmptiesLaw, StorageWalksLaw, IsAllowedWork, AllowedWorkLaw, SendMeansLaw, ReceiveMeansLaw}
use Rattle.call_table.proofs.CallLawsDelete.{calls_keep}
use Rattle.call_table.proofs.Refusals.{refusals, left_out}
use Rattle.call_table.proofs.ConfinedCalls.{calls_are_confined}
use Rattle.call_table.proofs.BoundedWork.{calls_empty, calls_bounded, calls_permitted, idle_work, made_permitted}
use Rattle.call_table.proofs.WalksStay.{walks_stay, same_walks}

-- ---- a call on mailboxes by itself

pub record IsMailCall (e : Estate) (d : Dom) (s : Storage) (r : Left) : Type 0 where
  pub on_boxes : IsOnBoxes d s r
  pub pairs : pairs_of r.state.boxes ≡ pairs_of s.boxes
  pub ends : (x : Dom) → r.value ≡ inl x → IsTurnedDown d s r x
  pub others : others_side e.number r.state.boxes ≡ others_side e.number s.boxes

some_code : (r : MailRefusal) → 1 ≤ mail_error r
some_code refusal.NoBox = lit≤ tt
some_code refusal.BoxFull = lit≤ tt
some_code refusal.NoMail = lit≤ tt

few_codes : (r : MailRefusal) → mail_error r ≤ 16
few_codes refusal.NoBox = lit≤ tt
few_codes refusal.BoxFull = lit≤ tt
few_codes refusal.NoMail = lit≤ tt

same_inl : (x y : Dom) → ◌≡◌ {A = Dom ⊎ Dom} (inl x) (inl y) → y ≡ x
same_inl x y e = cc e

module _ (e : Estate) (d : Dom) (s : Storage) where
  still : (code : ℕ) → IsOnBoxes d s (record { notes = []; state = s; value = inl (refused code d) })
  unfolding either replied placed
  still code = record { memory = refl; caps = refl; notes = refl }

  turned_down : (r : MailRefusal)
      → IsMailCall e d s (record { notes = []; state = s; value = inl (refused (mail_error r) d) })
  turned_down r = record {
    on_boxes = still (mail_error r);
    pairs = refl;
    ends = λ x is. record {
      code = mail_error r;
      some = some_code r;
      few = few_codes r;
      reply = same_inl (refused (mail_error r) d) x is;
      storage = refl;
      no_work = refl;
    };
    others = refl;
  }

  answered : (later : Boxes) (value : ℕ) → pairs_of later ≡ pairs_of s.boxes
      → others_side e.number later ≡ others_side e.number s.boxes
      → IsMailCall e d s (record { notes = []; state = record s { boxes = later }; value = inr (done value d) })
  unfolding either replied placed
  answered later value pairs others = record {
    on_boxes = record { memory = refl; caps = refl; notes = refl };
    pairs = pairs;
    ends = λ x is. absurd (cc is);
    others = others;
  }

  sent_is : (a b : ℕ) (o : Result Boxes MailRefusal) → send e.number a b s.boxes ≡ o
      → IsMailCall e d s (on_boxes s (has_sent d s.boxes o))
  sent_is a b (Ok later) is =
      answered later 0 ((pairs_law e.number s.boxes).sent a b later is) (send_keeps_law e.number a b s.boxes later is)
  sent_is a b (Err r) is = turned_down r

  received_is : (a : ℕ) (o : Result Received MailRefusal) → receive e.number a s.boxes ≡ o
      → IsMailCall e d s (on_boxes s (has_received d s.boxes o))
  received_is a (Ok r) is =
      answered r.boxes r.word ((pairs_law e.number s.boxes).received a r is) (receive_keeps_law e.number a s.boxes r is)
  received_is a (Err r) is = turned_down r

-- ---- beside another with equal frames and an equal own side

module _ (e : Estate) (d : Dom) (s t : Storage) (same : SameMine e s.mem t.mem)
    (side : own_side e.number s.boxes ≡ own_side e.number t.boxes) where
  beside : (r q : Left) → IsMailCall e d s r → IsMailCall e d t q → r.value ≡ q.value
      → own_side e.number r.state.boxes ≡ own_side e.number q.state.boxes → IsWithinOwn e s r q
  beside r q of_s of_t value own =
      let here = of_s.on_boxes in
      let there = of_t.on_boxes in
      record {
        value = value;
        notes = here.notes ∙ sym there.notes;
        same = subst₂ (λ (m k : Mem). SameMine e m k) (sym here.memory) (sym there.memory) same;
        side = own;
        outside = λ f _. ap (λ (m : Mem). frame_at m f) here.memory;
        others = of_s.others;
        work = subst (λ (ns : List Note). All (IsOwnWork e) ns) (sym here.notes) (All-nil (IsOwnWork e));
      }

  sent_alike : (a b : ℕ) (o p : Result Boxes MailRefusal) → send e.number a b s.boxes ≡ o → send e.number a b t.boxes ≡ p
      → sent_on_side e.number o ≡ sent_on_side e.number p
      → IsWithinOwn e s (on_boxes s (has_sent d s.boxes o)) (on_boxes t (has_sent d t.boxes p))
  sent_alike a b (Ok x) (Ok y) is_o is_p alike =
      beside _ _ (sent_is e d s a b (Ok x) is_o) (sent_is e d t a b (Ok y) is_p) refl (cc alike)
  sent_alike a b (Err q) (Err r) is_o is_p alike =
      beside _ _ (sent_is e d s a b (Err q) is_o) (sent_is e d t a b (Err r) is_p)
      (ap (λ (x : MailRefusal). inl (refused (mail_error x) d)) (cc alike)) side
  sent_alike a b (Ok x) (Err r) is_o is_p alike = absurd (cc alike)
  sent_alike a b (Err q) (Ok y) is_o is_p alike = absurd (cc alike)

  received_alike : (a : ℕ) (o p : Result Received MailRefusal) → receive e.number a s.boxes ≡ o → receive e.number a t.boxes ≡ p
      → received_on_side e.number o ≡ received_on_side e.number p
      → IsWithinOwn e s (on_boxes s (has_received d s.boxes o)) (on_boxes t (has_received d t.boxes p))
  received_alike a (Ok x) (Ok y) is_o is_p alike =
      let is : record { word = x.word; boxes = own_side e.number x.boxes } ≡ record { word = y.word; boxes = own_side e.number y.boxes } = cc alike in
      beside _ _ (received_is e d s a (Ok x) is_o) (received_is e d t a (Ok y) is_p)
      (ap (λ (r : Received). inr (done r.word d)) is) (ap (λ (r : Received). r.boxes) is)
  received_alike a (Err q) (Err r) is_o is_p alike =
      beside _ _ (received_is e d s a (Err q) is_o) (received_is e d t a (Err r) is_p)
      (ap (λ (x : MailRefusal). inl (refused (mail_error x) d)) (cc alike)) side
  received_alike a (Ok x) (Err r) is_o is_p alike = absurd (cc alike)
  received_alike a (Err q) (Ok y) is_o is_p alike = absurd (cc alike)

-- ---- every call: SEND, RECV, or one on memory

pub data Kind (n : ℕ) : Type 0 where
  Sends : n ≡ 19 → Kind n
  Receives : n ≡ 20 → Kind n
  Others : nat_eq n 19 ≡ false → nat_eq n 20 ≡ false → Kind n

pub kind_of : (n : ℕ) → Kind n
kind_of n = by_tests (nat_eq n 19) (nat_eq n 20) refl refl
  where
    by_tests : (t u : Bool) → nat_eq n 19 ≡ t → nat_eq n 20 ≡ u → Kind n
    by_tests true u is_t is_u = Kind.Sends (eqb-true n 19 is_t)
    by_tests false true is_t is_u = Kind.Receives (eqb-true n 20 is_u)
    by_tests false false is_t is_u = Kind.Others is_t is_u

module _ (e : Estate) (d : Dom) where
  abbrev n : ℕ
  n = number_made e d

  abbrev x : ℕ → ℕ
  x r = register d.threads.current.regs r

  sends : n ≡ 19 → (s : Storage) → called e d s ≡ on_boxes s (send_word e d (x 10) (x 11) s.boxes)
  unfolding called called_of
  sends is s = ap (λ (k : ℕ). called_of e d k (x 10) (x 11) (x 12) s) is

  receives : n ≡ 20 → (s : Storage) → called e d s ≡ on_boxes s (receive_word e d (x 10) s.boxes)
  unfolding called called_of
  receives is s = ap (λ (k : ℕ). called_of e d k (x 10) (x 11) (x 12) s) is

  on_mem : nat_eq n 19 ≡ false → nat_eq n 20 ≡ false → (s : Storage) → called e d s ≡ on_memory s (call e d s.mem)
  unfolding called called_of call
  on_mem no_send no_receive s = rw (no_send, no_receive) refl

  -- what holds of a call on mailboxes, and of one on memory, holds of the call that is made
  by_kind : (P : Left → Type 0) (s : Storage) → (is_mail n ≡ true → (r : Left) → IsMailCall e d s r → P r)
      → (is_mail n ≡ false → P (on_memory s (call e d s.mem))) → P (called e d s)
  by_kind P s on_mail on_memory_too = elim (kind_of n) [
    | Kind.Sends is ↦
        subst P (sym (sends is s))
        (on_mail (ap is_mail is) _ (sent_is e d s (x 10) (x 11) (send e.number (x 10) (x 11) s.boxes) refl))
    | Kind.Receives is ↦
        subst P (sym (receives is s))
        (on_mail (ap is_mail is) _ (received_is e d s (x 10) (receive e.number (x 10) s.boxes) refl))
    | Kind.Others no_send no_receive ↦
        subst P (sym (on_mem no_send no_receive s)) (on_memory_too (rw (no_send, no_receive) refl))
  ]

-- what holds of the domain and of memory after a refusal, after a call on mailboxes that is done, and after one on memory, holds after
-- the call that is made
module _ (e : Estate) (d : Dom) (P : Dom → Mem → Type 0) (s : Storage) (refuses : (code : ℕ) → P (refused code d) s.mem)
    (dones : (value : ℕ) → P (done value d) s.mem) where
  -- of what a call leaves behind
  abbrev LeavesSo : Left → Type 0
  LeavesSo r = P (either r.value) r.state.mem

  sent_so : (o : Result Boxes MailRefusal) → LeavesSo (on_boxes s (has_sent d s.boxes o))
  unfolding either
  sent_so (Ok later) = dones 0
  sent_so (Err r) = refuses (mail_error r)

  received_so : (o : Result Received MailRefusal) → LeavesSo (on_boxes s (has_received d s.boxes o))
  unfolding either
  received_so (Ok r) = dones r.word
  received_so (Err r) = refuses (mail_error r)

  pub after_called : P (either (call e d s.mem).value) (call e d s.mem).state → LeavesSo (called e d s)
  after_called on_mem_too = elim (kind_of (number_made e d)) [
    | Kind.Sends is ↦ subst LeavesSo (sym (sends e d is s)) (sent_so _)
    | Kind.Receives is ↦ subst LeavesSo (sym (receives e d is s)) (received_so _)
    | Kind.Others no_send no_receive ↦ subst LeavesSo (sym (on_mem e d no_send no_receive s)) on_mem_too
  ]

pub on_memory_law : OnMemoryLaw
on_memory_law e d s none =
    by_kind e d (λ (r : Left). r ≡ on_memory s (call e d s.mem)) s (λ some r is. absurd (true≢false (sym some ∙ none)))
    (λ _. refl)

pub on_boxes_law : OnBoxesLaw
on_boxes_law e d s some =
    by_kind e d (λ (r : Left). IsOnBoxes d s r) s (λ _ r is. is.on_boxes)
    (λ none. absurd (true≢false (sym some ∙ none)))

pub storage_kept : StorageKeptLaw
storage_kept e d s estate kept =
    by_kind e d (λ (r : Left). Kept e (either r.value) r.state.mem) s
    (λ _ r is.
    let here = is.on_boxes in
    record {
      slots = ap (λ (caps : Slots). length caps) here.caps ∙ kept.slots;
      facts =
          subst₂ (λ (caps : Slots) (m : Mem). Facts e.root (is_mine e) (claims e caps) m) (sym here.caps)
          (sym here.memory) kept.facts;
    })
    (λ _. calls_keep e d s.mem estate kept)

pub pairs_stay : PairsStayLaw
pairs_stay e d s =
    by_kind e d (λ (r : Left). pairs_of r.state.boxes ≡ pairs_of s.boxes) s (λ _ r is. is.pairs) (λ _. refl)

pub turned_down_law : TurnedDownLaw
turned_down_law e d x s =
    by_kind e d (λ (r : Left). r.value ≡ inl x → IsTurnedDown d s r x) s (λ _ r is. is.ends x)
    (λ _ is.
    let refusal = refusals e d x s.mem is in
    record {
      code = refusal.code;
      some = refusal.some;
      few = let few = refusal.few in omega (arith, few);
      reply = refusal.reply;
      storage = ap (λ (m : Mem). record s { mem = m }) refusal.memory;
      no_work = refusal.no_work;
    })

-- a call that may not be made is one on memory
pub unmade : UnmadeLaw
unmade e d s out =
    let none : number_made e d ≡ bad_call_op =
    ap (λ (b : Bool). if b then register d.threads.current.regs 17 else bad_call_op) out in
    on_memory_law e d s (ap is_mail none)
    ∙ ap (λ (r : Done Mem Note Dom Dom). on_memory s r) (left_out e d s.mem out)

pub within_own : WithinOwnLaw
within_own e d s t kept same side = elim (kind_of (number_made e d)) [
  | Kind.Sends is ↦
      subst₂ (λ (r q : Left). IsWithinOwn e s r q) (sym (sends e d is s)) (sym (sends e d is t))
      (sent_alike e d s t same side (argument_a d) (argument_b d) _ _ refl refl
      (send_law e.number (argument_a d) (argument_b d) s.boxes
      ∙ ap (send e.number (argument_a d) (argument_b d)) side
      ∙ sym (send_law e.number (argument_a d) (argument_b d) t.boxes)))
  | Kind.Receives is ↦
      subst₂ (λ (r q : Left). IsWithinOwn e s r q) (sym (receives e d is s)) (sym (receives e d is t))
      (received_alike e d s t same side (argument_a d) _ _ refl refl
      (receive_law e.number (argument_a d) s.boxes ∙ ap (receive e.number (argument_a d)) side
      ∙ sym (receive_law e.number (argument_a d) t.boxes)))
  | Kind.Others no_send no_receive ↦
      let own = calls_are_confined e d s.mem t.mem kept same in
      subst₂ (λ (r q : Left). IsWithinOwn e s r q) (sym (on_mem e d no_send no_receive s))
      (sym (on_mem e d no_send no_receive t)) (record {
        value = own.value;
        notes = own.notes;
        same = own.same;
        side = side;
        outside = own.outside;
        others = refl;
        work = own.work;
      })
]

-- ---- the translation buffer, and the work

-- such a call has its own operation
pub mail_op : (n : ℕ) → is_mail n ≡ true → op_of n ≡ n
mail_op n some = elim (kind_of n) [
  | Kind.Sends is ↦ subst (λ (k : ℕ). op_of k ≡ k) (sym is) refl
  | Kind.Receives is ↦ subst (λ (k : ℕ). op_of k ≡ k) (sym is) refl
  | Kind.Others no_send no_receive ↦
      let none : is_mail n ≡ false = rw (no_send, no_receive) refl in absurd (true≢false (sym some ∙ none))
]

-- no call on mailboxes clears an entry of a page table
pub clears_none : (n : ℕ) → Kind n → is_mail n ≡ true → clears_entries n ≡ false
clears_none n (Kind.Sends is) some = ap clears_entries is
clears_none n (Kind.Receives is) some = ap clears_entries is
clears_none n (Kind.Others no_send no_receive) some =
    let none : is_mail n ≡ false = rw (no_send, no_receive) refl in absurd (true≢false (sym some ∙ none))

pub storage_empties : StorageEmptiesLaw
unfolding empties
storage_empties e d s =
    let n = number_made e d in
    by_kind e d
    (λ (r : Left). empties r.notes ≡ empties_buffer n (reply_past (length d.replies) (either r.value))) s
    (λ some r is.
    let reply = reply_past (length d.replies) (either r.value) in
    ap empties is.on_boxes.notes
    ∙ sym (ap (λ (b : Bool). b && is_done reply) (clears_none n (kind_of n) some)))
    (λ _. calls_empty e d s.mem)

pub storage_walks : StorageWalksLaw
storage_walks e d s kept =
    by_kind e d (λ (r : Left). empties r.notes ≡ false → KeepsWalks e s.mem r.state.mem) s
    (λ _ r is _. same_walks e s.mem r.state.mem is.on_boxes.memory) (λ _ quiet. walks_stay e d s.mem kept quiet)

pub allowed_work : AllowedWorkLaw
unfolding work_of
allowed_work e d s =
    by_kind e d (λ (r : Left). IsAllowedWork e d r) s
    (λ _ r is.
    subst (λ (ns : List Note). IsAllowedWork e d (record r { notes = ns })) (sym is.on_boxes.notes)
    (record { bounded = idle_work (number_made e d); permitted = made_permitted e.calls (register d.threads.current.regs 17) }))
    (λ _. record { bounded = calls_bounded e d s.mem; permitted = calls_permitted e d s.mem })

-- ---- what SEND and RECV mean

-- what a call on mailboxes comes to, by what is made of the boxes
sent_to : (d : Dom) (s : Storage) (o : Result Boxes MailRefusal) → Left
sent_to d s o = on_boxes s (has_sent d s.boxes o)

received_to : (d : Dom) (s : Storage) (o : Result Received MailRefusal) → Left
received_to d s o = on_boxes s (has_received d s.boxes o)

pub send_means : SendMeansLaw
unfolding sent_to
send_means e d s is =
    let cases = send_cases_law e.number (argument_a d) (argument_b d) s.boxes in
    let comes_to : (o : Result Boxes MailRefusal) → send e.number (argument_a d) (argument_b d) s.boxes ≡ o
    → called e d s ≡ sent_to d s o = λ o got. sends e d is s ∙ ap (sent_to d s) got in
    record {
      no_box = λ none. ap (λ (r : Left). r.value) (comes_to _ (cases.no_box none));
      full = λ b from most. ap (λ (r : Left). r.value) (comes_to _ (cases.full b from most));
      is_done = λ b from room. ap (λ (r : Left). r.value) (comes_to _ (cases.sent b from room));
      sent = λ b from room. ap (λ (r : Left). r.state.boxes) (comes_to _ (cases.sent b from room));
    }

pub receive_means : ReceiveMeansLaw
unfolding received_to
receive_means e d s is =
    let cases = receive_cases_law e.number (argument_a d) s.boxes in
    let comes_to : (o : Result Received MailRefusal) → receive e.number (argument_a d) s.boxes ≡ o
    → called e d s ≡ received_to d s o = λ o got. receives e d is s ∙ ap (received_to d s) got in
    record {
      no_box = λ none. ap (λ (r : Left). r.value) (comes_to _ (cases.no_box none));
      no_mail = λ b to empty. ap (λ (r : Left). r.value) (comes_to _ (cases.no_mail b to empty));
      is_done = λ b word words to some. ap (λ (r : Left). r.value) (comes_to _ (cases.received b word words to some));
      taken = λ b word words to some. ap (λ (r : Left). r.state.boxes) (comes_to _ (cases.received b word words to some));
    }
