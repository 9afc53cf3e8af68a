-- Steps of page tables over two memories that are equal in the domain's own frames.
use Rattle.std.proofs.Common.{◌≡◌, ◌≢◌, ◌∙◌, ap, ap₂, sym, subst, refl, inr, ℕ, ◌<◌, ◌%◌, Bool, true, false, not, cond, eqb, ◌&&◌, [], ◌∷◌, Option, Some, None}
use Rattle.std.proofs.lemmas.List.Elements.{All-cons}
use Rattle.tp_base.specs.Act.{go_on, ◌>>=◌, ◌>>◌, give}
use Rattle.phys_mem.specs.Mem.{Mem, word, written, zeroed_frame, word-written_frame}
use Rattle.sv32_walk.specs.PageTableEntry.{valid, ppn, vpn_0, vpn_1, table_word, leaf_word}
use Rattle.sv32_walk.specs.Walk.{entry_address}
use Rattle.sv32_walk.specs.Translation.{second_entry}
use Rattle.page_map.specs.declared.refusal.MapRefusal.{MapRefusal}
use Rattle.page_map.specs.declared.refusal.MapRefusal.TheVariants as refusal
use Rattle.page_map.specs.Tables.{has_table, has_page, table_of, map_refusal, install_refusal}
use Rattle.page_map.specs.Changes.{unmapped}
use Rattle.page_map.proofs.WalkLemmas.{vpn_0-below, vpn_1-below}
use Rattle.cap_table.specs.declared.Cap.{Cap}
use Rattle.cap_table.specs.declared.Cap.TheVariants as cap
use Rattle.call_table.specs.Claims.{Estate, is_mine}
use Rattle.call_table.specs.Calls.{Note, Act, zero_out, page_refusal, table_refusal, map_at, unmap_at, install_at, uninstall_at, clear_entry}
use Rattle.call_table.specs.Laws.{IsMine, SameMine, IsOwnWork}
use Rattle.call_table.proofs.ConfinedSteps.{same_word, entry_frame, Beside, Alike, beside_written, beside_zeroed, read_alike}

-- the root is the domain's own, and each table that it points to, which is another frame
pub record OwnTables (e : Estate) (m : Mem) : Type 0 where
  pub root : IsMine e e.root
  pub own : (r : ℕ) → valid (word m e.root r) ≡ true → IsMine e (ppn (word m e.root r))
  pub apart : (r : ℕ) → valid (word m e.root r) ≡ true → ppn (word m e.root r) ≢ e.root

-- where the root is as it was, so are the tables
pub same_tables : (e : Estate) (m n : Mem) → ((q : ℕ) → word n e.root q ≡ word m e.root q) → OwnTables e m
    → OwnTables e n
same_tables e m n same t = record {
  root = t.root;
  own = λ q. subst (λ (w : ℕ). valid w ≡ true → IsMine e (ppn w)) (sym (same q)) (t.own q);
  apart = λ q. subst (λ (w : ℕ). valid w ≡ true → ppn w ≢ e.root) (sym (same q)) (t.apart q);
}

-- a leaf that is cleared leaves the root
pub root_stays : (e : Estate) (m : Mem) (va : ℕ) → OwnTables e m → has_table m e.root va ≡ true
    → (q : ℕ) → word (unmapped m e.root va) e.root q ≡ word m e.root q
root_stays e m va t ok q = word-written_frame m (table_of m e.root va) (vpn_0 va) 0 e.root q (λ z. t.apart (vpn_1 va) ok (sym z))

both_same : (t t' v v' : Bool) → t ≡ t' → (t ≡ true → v ≡ v') → t && v ≡ t' && v'
both_same true true v v' e h = h refl
both_same false false v v' e h = refl
both_same true false v v' e h = absurd (cc e)
both_same false true v v' e h = absurd (cc e)

module _ (e : Estate) (m k : Mem) (same : SameMine e m k) (t : OwnTables e m) where
  pub root_word : (r : ℕ) → word m e.root r ≡ word k e.root r
  root_word r = same_word m k e.root r (same e.root t.root)

  pub same_table : (va : ℕ) → table_of m e.root va ≡ table_of k e.root va
  same_table va = ap ppn (root_word (vpn_1 va))

  has_same : (va : ℕ) → has_table m e.root va ≡ has_table k e.root va
  has_same va = ap valid (root_word (vpn_1 va))

  page_word : (va : ℕ) → has_table m e.root va ≡ true → second_entry m e.root va ≡ second_entry k e.root va
  page_word va ok =
      same_word m k (table_of m e.root va) (vpn_0 va) (same (table_of m e.root va) (t.own (vpn_1 va) ok))
      ∙ ap (λ (f : ℕ). word k f (vpn_0 va)) (same_table va)

  page_same : (va : ℕ) → has_page m e.root va ≡ has_page k e.root va
  page_same va = both_same _ _ _ _ (has_same va) (λ ok. ap valid (page_word va ok))

  pub refusal_same : (va : ℕ) → map_refusal m e.root va ≡ map_refusal k e.root va
  unfolding map_refusal
  refusal_same va =
      ap₂ (λ (p h : Bool). cond (not (eqb (va % 4096) 0)) (Some refusal.BadAddress)
      (cond p (Some refusal.Mapped) (cond h None (Some refusal.NoTable))))
      (page_same va) (has_same va)

  pub install_same : (va : ℕ) → install_refusal m e.root va ≡ install_refusal k e.root va
  unfolding install_refusal
  install_same va =
      ap (λ (h : Bool). cond (not (eqb (va % 4194304) 0)) (Some refusal.BadAddress) (cond h (Some refusal.Mapped) None)) (has_same va)

module _ (e : Estate) (first m k : Mem) (b : Beside e first m k) {A : Type 0} (P : A → Mem → Type 0) where
  -- an entry of a frame of the domain's own is written
  entry_alike : (f g i v : ℕ) (y : Act A) → f ≡ g → IsMine e f → i < 1024
      → (Beside e first (written m f i v) (written k f i v) → Alike e first P (y (written m f i v)) (y (written k f i v)))
      → Alike e first P
      (go_on (record {
        notes = Note.Entry (entry_address f i) ∷ [];
        state = written m f i v;
        value = inr tt;
      })
      (λ (u : Unit {0}). y) (inr tt))
      (go_on (record {
        notes = Note.Entry (entry_address g i) ∷ [];
        state = written k g i v;
        value = inr tt;
      })
      (λ (u : Unit {0}). y) (inr tt))
  unfolding go_on
  entry_alike f g i v y e_same own below h =
      subst (λ (g : ℕ). Alike e first P
      (go_on (record {
        notes = Note.Entry (entry_address f i) ∷ [];
        state = written m f i v;
        value = inr tt;
      })
      (λ (u : Unit {0}). y) (inr tt))
      (go_on (record {
        notes = Note.Entry (entry_address g i) ∷ [];
        state = written k g i v;
        value = inr tt;
      })
      (λ (u : Unit {0}). y) (inr tt))) e_same
      (let n = h (beside_written e first m k f i v own b) in
      record {
        value = n.value;
        notes = ap (λ ns. Note.Entry (entry_address f i) ∷ ns) n.notes;
        beside = n.beside;
        work =
            All-cons (IsOwnWork e) (Note.Entry (entry_address f i)) (y (written m f i v)).notes
            (ap (is_mine e) (entry_frame f i below) ∙ own) n.work;
        known = n.known;
      })

  pub zero_alike : (f : ℕ) (y : Act A) → IsMine e f
      → (Beside e first (zeroed_frame m f) (zeroed_frame k f) → Alike e first P (y (zeroed_frame m f)) (y (zeroed_frame k f)))
      → Alike e first P ((zero_out f >> y) m) ((zero_out f >> y) k)
  unfolding zero_out ◌>>◌ ◌>>=◌ go_on
  zero_alike f y own h =
      let n = h (beside_zeroed e first m k f own b) in
      record {
        value = n.value;
        notes = ap (λ ns. Note.Zeroed f ∷ ns) n.notes;
        beside = n.beside;
        work = All-cons (IsOwnWork e) (Note.Zeroed f) (y (zeroed_frame m f)).notes own n.work;
        known = n.known;
      }

  module _ (t : OwnTables e m) where
    pub page_refusal_alike : (va : ℕ) (f : Option MapRefusal → Act A)
        → Alike e first P (f (map_refusal m e.root va) m) (f (map_refusal m e.root va) k)
        → Alike e first P ((page_refusal e.root va >>= f) m) ((page_refusal e.root va >>= f) k)
    unfolding page_refusal ◌>>=◌
    page_refusal_alike va f h =
        read_alike e first P m k b (map_refusal m e.root va) (map_refusal k e.root va) f
        (refusal_same e m k b.same t va) h

    pub table_refusal_alike : (va : ℕ) (f : Option MapRefusal → Act A)
        → Alike e first P (f (install_refusal m e.root va) m) (f (install_refusal m e.root va) k)
        → Alike e first P ((table_refusal e.root va >>= f) m) ((table_refusal e.root va >>= f) k)
    unfolding table_refusal ◌>>=◌
    table_refusal_alike va f h =
        read_alike e first P m k b (install_refusal m e.root va) (install_refusal k e.root va) f
        (install_same e m k b.same t va) h

    pub map_alike : (va f rights : ℕ) (y : Act A) → has_table m e.root va ≡ true
        → ((n l : Mem) → Beside e first n l → Alike e first P (y n) (y l))
        → Alike e first P ((map_at e.root va f rights >> y) m) ((map_at e.root va f rights >> y) k)
    unfolding map_at ◌>>◌ ◌>>=◌
    map_alike va f rights y ok h =
        entry_alike (table_of m e.root va) (table_of k e.root va) (vpn_0 va) (leaf_word f rights) y (same_table e m k b.same t va)
        (t.own (vpn_1 va) ok) (vpn_0-below va) (h _ _)

    -- the root stays as it is
    pub unmap_alike : (va : ℕ) (y : Act A) → has_table m e.root va ≡ true
        → ((n l : Mem) → ((r : ℕ) → word n e.root r ≡ word m e.root r) → Beside e first n l → Alike e first P (y n) (y l))
        → Alike e first P ((unmap_at e.root va >> y) m) ((unmap_at e.root va >> y) k)
    unfolding unmap_at ◌>>◌ ◌>>=◌
    unmap_alike va y ok h =
        entry_alike (table_of m e.root va) (table_of k e.root va) (vpn_0 va) 0 y (same_table e m k b.same t va)
        (t.own (vpn_1 va) ok) (vpn_0-below va)
        (h _ _ (root_stays e m va t ok))

    pub install_alike : (va f : ℕ) (y : Act A)
        → ((n l : Mem) → Beside e first n l → Alike e first P (y n) (y l))
        → Alike e first P ((install_at e.root va f >> y) m) ((install_at e.root va f >> y) k)
    unfolding install_at ◌>>◌ ◌>>=◌
    install_alike va f y h = entry_alike e.root e.root (vpn_1 va) (table_word f) y refl t.root (vpn_1-below va) (h _ _)

    pub uninstall_alike : (va : ℕ) (y : Act A)
        → ((n l : Mem) → Beside e first n l → Alike e first P (y n) (y l))
        → Alike e first P ((uninstall_at e.root va >> y) m) ((uninstall_at e.root va >> y) k)
    unfolding uninstall_at ◌>>◌ ◌>>=◌
    uninstall_alike va y h = entry_alike e.root e.root (vpn_1 va) 0 y refl t.root (vpn_1-below va) (h _ _)

    nothing_alike : (y : Act A) → Alike e first P (y m) (y k)
        → Alike e first P ((give {A = Unit {0}} tt >> y) m) ((give {A = Unit {0}} tt >> y) k)
    unfolding give ◌>>◌ ◌>>=◌ go_on
    nothing_alike y h = record { value = h.value; notes = h.notes; beside = h.beside; work = h.work; known = h.known }

    -- where no table is uninstalled the root stays as it is
    pub clear_alike : (c : Option Cap) (y : Act A)
        → ((f rights va : ℕ) → c ≡ Some (cap.Frame f rights (Some va)) → has_table m e.root va ≡ true)
        → ((n l : Mem) → (((f : ℕ) (w : Option ℕ) → c ≢ Some (cap.Table f w)) → (r : ℕ) → word n e.root r ≡ word m e.root r)
        → Beside e first n l → Alike e first P (y n) (y l))
        → Alike e first P ((clear_entry e.root c >> y) m) ((clear_entry e.root c >> y) k)
    unfolding clear_entry
    clear_alike (Some (cap.Frame f rights (Some va))) y ok h =
        unmap_alike va y (ok f rights va refl) (λ n l same beside. h n l (λ _. same) beside)
    clear_alike (Some (cap.Table f (Some va))) y ok h =
        uninstall_alike va y (λ n l beside. h n l (λ no. absurd (no f (Some va) refl)) beside)
    clear_alike (Some (cap.Frame f rights None)) y ok h = nothing_alike y (h m k (λ _ r. refl) b)
    clear_alike (Some (cap.Table f None)) y ok h = nothing_alike y (h m k (λ _ r. refl) b)
    clear_alike (Some (cap.Irq line)) y ok h = nothing_alike y (h m k (λ _ r. refl) b)
    clear_alike None y ok h = nothing_alike y (h m k (λ _ r. refl) b)
