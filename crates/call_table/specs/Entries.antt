-- Which slots, and which entries of page tables, each call that is done writes.
use Rattle.std.specs.Prelude.{◌≡◌, ◌≢◌, ℕ, true, nat_eq, if◌then◌else◌, List, [], ◌∷◌, map, Option, Some, None}
use Rattle.std.proofs.Common.{inr}
use Rattle.phys_mem.specs.Mem.{Mem}
use Rattle.page_map.specs.Changes.{table_entry, page_entry}
use Rattle.cap_table.specs.declared.Cap.{Cap}
use Rattle.cap_table.specs.declared.Cap.TheVariants as cap
use Rattle.cap_table.specs.Slots.{cap_at, slot_after, revoked_count, revoked_entries}
use Rattle.call_table.specs.Domain.{Dom}
use Rattle.frame_colours.specs.Colours.{has}
use Rattle.call_table.specs.Claims.{Estate, IsEstate, frame_of, claim_of, free_frames, least_free}
use Rattle.call_table.specs.Calls.{entries_in, call, number_made}
use Rattle.call_table.specs.Laws.{Kept}
use Rattle.call_table.specs.Meanings.{Makes, argument_a, argument_b, argument_c, IsDone, SlotsStay}

-- ---- slots

-- the call was done, answers 0, and of the slots sets this one alone
pub record SetsSlot (slot : ℕ) (c : Option Cap) (d x : Dom) : Type 0 where
  pub done : IsDone 0 d x
  pub there : cap_at x.caps slot ≡ c
  pub others : SlotsStay slot d.caps x.caps
  pub rest : x ≡ record d { threads = x.threads; replies = x.replies; caps = x.caps }

-- ALLOC puts the least free frame there, mapped nowhere: a page with all rights (0), or a table (1)
pub record IsAllocated (e : Estate) (d x : Dom) : Type 0 where
  pub frame : ℕ
  pub least : least_free e d.caps ≡ Some frame
  pub page : argument_b d ≡ 0 → SetsSlot (argument_a d) (Some (cap.Frame frame 7 None)) d x
  pub table : argument_b d ≡ 1 → SetsSlot (argument_a d) (Some (cap.Table frame None)) d x

abbrev pub AllocatedSlotLaw : Type 0
AllocatedSlotLaw = (e : Estate) (d x : Dom) (m : Mem) → Kept e d m → Makes e d 2 → (call e d m).value ≡ inr x
    → IsAllocated e d x

-- MAP notes where the page is mapped
abbrev pub MappedSlotLaw : Type 0
MappedSlotLaw =
    (e : Estate) (d x : Dom) (m : Mem) (frame rights : ℕ) (at : Option ℕ) → Kept e d m → Makes e d 4
    → (call e d m).value ≡ inr x → cap_at d.caps (argument_a d) ≡ Some (cap.Frame frame rights at)
    → SetsSlot (argument_a d) (Some (cap.Frame frame rights (Some (argument_b d)))) d x

-- COPY names the same page, with the rights that are asked for and mapped nowhere
abbrev pub CopiedPageLaw : Type 0
CopiedPageLaw =
    (e : Estate) (d x : Dom) (m : Mem) (frame rights : ℕ) (at : Option ℕ) → Kept e d m → Makes e d 6
    → (call e d m).value ≡ inr x → cap_at d.caps (argument_a d) ≡ Some (cap.Frame frame rights at)
    → SetsSlot (argument_b d) (Some (cap.Frame frame (argument_c d) None)) d x

-- or the same line
abbrev pub CopiedLineLaw : Type 0
CopiedLineLaw =
    (e : Estate) (d x : Dom) (m : Mem) (line : ℕ) → Kept e d m → Makes e d 6 → (call e d m).value ≡ inr x
    → cap_at d.caps (argument_a d) ≡ Some (cap.Irq line) → SetsSlot (argument_b d) (Some (cap.Irq line)) d x

-- DELETE empties it
abbrev pub DeletedSlotLaw : Type 0
DeletedSlotLaw = (e : Estate) (d x : Dom) (m : Mem) → Makes e d 7 → (call e d m).value ≡ inr x
    → SetsSlot (argument_a d) None d x

-- and the frame of a page or a table that it alone named is free again: an ALLOC may take it
abbrev pub FreedLaw : Type 0
FreedLaw = (e : Estate) (d x : Dom) (m : Mem) (a f : ℕ) → IsEstate e → Kept e d m → Makes e d 7
    → (call e d m).value ≡ inr x → a ≡ argument_a d → frame_of (claim_of (cap_at d.caps a)) ≡ Some f
    → ((i : ℕ) → i ≢ a → frame_of (claim_of (cap_at d.caps i)) ≢ Some f) → has (free_frames e x.caps) f ≡ true

-- REVOKE empties every other slot that names the same page or line, counts them, and every other slot is as it was
pub record IsRevokedAll (d x : Dom) : Type 0 where
  pub done : IsDone (revoked_count d.caps (argument_a d)) d x
  pub slots : (i : ℕ) → cap_at x.caps i ≡ slot_after d.caps (argument_a d) i
  pub rest : x ≡ record d { threads = x.threads; replies = x.replies; caps = x.caps }

abbrev pub RevokedSlotsLaw : Type 0
RevokedSlotsLaw = (e : Estate) (d x : Dom) (m : Mem) → Kept e d m → Makes e d 8 → (call e d m).value ≡ inr x
    → IsRevokedAll d x

-- ---- entries

-- the entry that a capability stands for: where its page is mapped, or its table installed
abbrev pub entry_of : Mem → ℕ → Option Cap → List ℕ
entry_of m root (Some (cap.Frame frame rights (Some va))) = page_entry m root va ∷ []
entry_of m root (Some (cap.Table frame (Some va))) = table_entry root va ∷ []
entry_of m root _ = []

-- TABLE the root's entry of its region, MAP its address's in a table, UNMAP and DELETE that of the slot, REVOKE those of
-- the emptied slots that were mapped, in the order of slots, and every other call none
unfoldable pub entries_written : Estate → Dom → Mem → ℕ → ℕ → ℕ → List ℕ
entries_written e d m number a b =
    if nat_eq number 3 then table_entry e.root b ∷ []
    else if nat_eq number 4 then page_entry m e.root b ∷ []
    else if nat_eq number 5 then entry_of m e.root (cap_at d.caps a)
    else if nat_eq number 7 then entry_of m e.root (cap_at d.caps a)
    else if nat_eq number 8 then map (page_entry m e.root) (revoked_entries d.caps a)
    else []

abbrev pub EntriesLaw : Type 0
EntriesLaw = (e : Estate) (d x : Dom) (m : Mem) → Kept e d m → (call e d m).value ≡ inr x
    → entries_in (call e d m).notes ≡ entries_written e d m (number_made e d) (argument_a d) (argument_b d)
