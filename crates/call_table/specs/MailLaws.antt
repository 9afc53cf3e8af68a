-- What every call keeps of memory and of the boxes, and what SEND and RECV mean.
use Rattle.std.specs.Prelude.{◌≡◌, ℕ, ◌<◌, ◌≤◌, true, false, List, [], ◌∷◌, ◌++◌, length, slice_set}
use Rattle.std.specs.List.{All}
use Rattle.std.proofs.Common.{inl, inr}
use Rattle.tp_base.specs.Act.{Done, either}
use Rattle.phys_mem.specs.Mem.{frame_at}
use Rattle.rv_core.specs.Registers.{register}
use Rattle.kernel_clone.specs.Permissions.{is_mail, may_make}
use Rattle.pad_bound.specs.Worst.{IsCallWork, IsPermitted}
use Rattle.mail_slots.specs.Boxes.{Mailbox, most_words}
use Rattle.mail_slots.specs.Sides.{own_side, others_side}
use Rattle.mail_slots.specs.Laws.{IsFrom, IsTo, HasNoBoxFrom, HasNoBoxTo, pairs_of}
use Rattle.call_table.specs.Domain.{Dom, done, refused, reply_past}
use Rattle.call_table.specs.Claims.{Estate, is_mine, IsEstate}
use Rattle.call_table.specs.Calls.{Note, call, empties, empties_buffer, work_of, number_made}
use Rattle.call_table.specs.Meanings.{argument_a, argument_b}
use Rattle.call_table.specs.Laws.{Kept, SameMine, IsOwnWork, KeepsWalks}
use Rattle.call_table.specs.Mail.{Storage, on_memory, called}

-- what a call leaves behind
abbrev pub Left : Type 0
Left = Done Storage Note Dom Dom

-- ---- a call is on memory or on the boxes

abbrev pub OnMemoryLaw : Type 0
OnMemoryLaw = (e : Estate) (d : Dom) (s : Storage) → is_mail (number_made e d) ≡ false
    → called e d s ≡ on_memory s (call e d s.mem)

-- one on the boxes leaves memory and the domain's capabilities, and notes no work
pub record IsOnBoxes (d : Dom) (s : Storage) (r : Left) : Type 0 where
  pub memory : r.state.mem ≡ s.mem
  pub caps : (either r.value).caps ≡ d.caps
  pub notes : r.notes ≡ []

abbrev pub OnBoxesLaw : Type 0
OnBoxesLaw = (e : Estate) (d : Dom) (s : Storage) → is_mail (number_made e d) ≡ true
    → IsOnBoxes d s (called e d s)

-- ---- what every call keeps

-- the facts of the domain's frames and page tables
abbrev pub StorageKeptLaw : Type 0
StorageKeptLaw = (e : Estate) (d : Dom) (s : Storage) → IsEstate e → Kept e d s.mem →
    let r = called e d s in
    Kept e (either r.value) r.state.mem

-- each box leads from whom and to whom it led
abbrev pub PairsStayLaw : Type 0
PairsStayLaw = (e : Estate) (d : Dom) (s : Storage)
    → pairs_of (called e d s).state.boxes ≡ pairs_of s.boxes

-- an early end is a refusal: a code, memory and boxes as they were, and no work
pub record IsTurnedDown (d : Dom) (s : Storage) (r : Left) (x : Dom) : Type 0 where
  pub code : ℕ
  pub some : 1 ≤ code
  pub few : code ≤ 16
  pub reply : x ≡ refused code d
  pub storage : r.state ≡ s
  pub no_work : r.notes ≡ []

abbrev pub TurnedDownLaw : Type 0
TurnedDownLaw = (e : Estate) (d x : Dom) (s : Storage) → (called e d s).value ≡ inl x
    → IsTurnedDown d s (called e d s) x

-- a call that the domain may not make is refused before all else, whatever its number and arguments
abbrev pub UnmadeLaw : Type 0
UnmadeLaw = (e : Estate) (d : Dom) (s : Storage) → may_make e.calls (register d.threads.current.regs 17) ≡ false
    → called e d s ≡ record { notes = []; state = s; value = inl (refused 1 d) }

-- ---- a call stays with what is the domain's own: its frames, and its own side of the boxes

-- where these are equal, it does the same work, with the same outcome, and changes nothing else
pub record IsWithinOwn (e : Estate) (s : Storage) (r q : Left) : Type 0 where
  pub value : r.value ≡ q.value
  pub notes : r.notes ≡ q.notes
  pub same : SameMine e r.state.mem q.state.mem
  pub side : own_side e.number r.state.boxes ≡ own_side e.number q.state.boxes
  pub outside : (f : ℕ) → is_mine e f ≡ false → frame_at r.state.mem f ≡ frame_at s.mem f
  pub others : others_side e.number r.state.boxes ≡ others_side e.number s.boxes
  pub work : All (IsOwnWork e) r.notes

abbrev pub WithinOwnLaw : Type 0
WithinOwnLaw = (e : Estate) (d : Dom) (s t : Storage) → Kept e d s.mem → SameMine e s.mem t.mem
    → own_side e.number s.boxes ≡ own_side e.number t.boxes → IsWithinOwn e s (called e d s) (called e d t)

-- ---- the translation buffer, and the work

abbrev pub StorageEmptiesLaw : Type 0
StorageEmptiesLaw = (e : Estate) (d : Dom) (s : Storage) → let r = called e d s in
    empties r.notes ≡ empties_buffer (number_made e d) (reply_past (length d.replies) (either r.value))

abbrev pub StorageWalksLaw : Type 0
StorageWalksLaw = (e : Estate) (d : Dom) (s : Storage) → Kept e d s.mem → empties (called e d s).notes ≡ false
    → KeepsWalks e s.mem (called e d s).state.mem

pub record IsAllowedWork (e : Estate) (d : Dom) (r : Left) : Type 0 where
  pub bounded : IsCallWork (work_of (number_made e d) r.notes)
  pub permitted : IsPermitted e.calls (work_of (number_made e d) r.notes)

abbrev pub AllowedWorkLaw : Type 0
AllowedWorkLaw = (e : Estate) (d : Dom) (s : Storage) → IsAllowedWork e d (called e d s)

-- ---- SEND and RECV in the user's words

pub record Sends (e : Estate) (d : Dom) (s : Storage) (r : Left) : Type 0 where
  pub no_box : HasNoBoxFrom e.number (argument_a d) s.boxes → r.value ≡ inl (refused 14 d)
  pub full : (b : Mailbox) → IsFrom e.number (argument_a d) s.boxes b → most_words ≤ length b.out
      → r.value ≡ inl (refused 15 d)
  pub is_done : (b : Mailbox) → IsFrom e.number (argument_a d) s.boxes b → length b.out < most_words
      → r.value ≡ inr (done 0 d)
  pub sent : (b : Mailbox) → IsFrom e.number (argument_a d) s.boxes b → length b.out < most_words
      → r.state.boxes ≡ slice_set s.boxes (argument_a d) (record b { out = b.out ++ argument_b d ∷ [] })

abbrev pub SendMeansLaw : Type 0
SendMeansLaw = (e : Estate) (d : Dom) (s : Storage) → number_made e d ≡ 19 → Sends e d s (called e d s)

pub record Receives (e : Estate) (d : Dom) (s : Storage) (r : Left) : Type 0 where
  pub no_box : HasNoBoxTo e.number (argument_a d) s.boxes → r.value ≡ inl (refused 14 d)
  pub no_mail : (b : Mailbox) → IsTo e.number (argument_a d) s.boxes b → b.inbox ≡ []
      → r.value ≡ inl (refused 16 d)
  pub is_done : (b : Mailbox) (word : ℕ) (words : List ℕ) → IsTo e.number (argument_a d) s.boxes b
      → b.inbox ≡ word ∷ words → r.value ≡ inr (done word d)
  pub taken : (b : Mailbox) (word : ℕ) (words : List ℕ) → IsTo e.number (argument_a d) s.boxes b
      → b.inbox ≡ word ∷ words
      → r.state.boxes ≡ slice_set s.boxes (argument_a d) (record b { inbox = words })

abbrev pub ReceiveMeansLaw : Type 0
ReceiveMeansLaw = (e : Estate) (d : Dom) (s : Storage) → number_made e d ≡ 20 → Receives e d s (called e d s)
