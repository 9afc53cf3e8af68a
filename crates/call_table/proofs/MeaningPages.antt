-- What TABLE, UNMAP and DELETE leave of page tables, and which calls leave memory.
use Rattle.std.proofs.Common.{◌≡◌, ◌≢◌, ◌∙◌, inr, ap, sym, subst, refl, ℕ, ◌<◌, Bool, true, false, true≢false, not, eqb-true, length, [], Option, Some, None}
use Rattle.std.specs.Prelude.{nat_eq, is_some, if◌then◌else◌}
use Rattle.tp_base.specs.Act.{Done, go_on, ◌>>=◌, ◌>>◌, give, stop, check, either}
use Rattle.phys_mem.specs.Mem.{Mem, word, word-written_frame}
use Rattle.sv32_walk.specs.PageTableEntry.{valid, ppn, vpn_0, vpn_1, table_word}
use Rattle.sv32_walk.specs.Translation.{first_entry, second_entry}
use Rattle.sv32_walk.proofs.WordLemmas.{ppn-table, points-table}
use Rattle.thread_set.specs.Threads.{with_current}
use Rattle.page_map.specs.Tables.{install_refusal}
use Rattle.page_map.specs.Changes.{installed}
use Rattle.page_map.proofs.KeptLemmas.{not_valid}
use Rattle.page_map.proofs.RefusalLemmas.{map_free}
use Rattle.page_map.proofs.PageLemmas.{page_elsewhere, cleared_fault}
use Rattle.page_map.proofs.RegionLemmas.{region_elsewhere, first_is, uninstalled_fault}
use Rattle.cap_table.specs.declared.Cap.{Cap}
use Rattle.cap_table.specs.declared.Cap.TheVariants as cap
use Rattle.cap_table.specs.Slots.{cap_at, table_of, noted}
use Rattle.call_table.specs.Domain.{Dom, replied, placed, done, exited, with_caps}
use Rattle.call_table.specs.Claims.{Claim, Estate, is_mine, claims, claim_of, region_of}
use Rattle.call_table.specs.Calls.{Note, Act, Directory, some_or, is_slot, table_in, unless_refused, copy_refusal, put_byte, with_slot, install, clear_entry, uninstall_at, drop_slot, delete, copy, call_of, call, number_made}
use Rattle.call_table.specs.Laws.{Kept}
use Rattle.call_table.specs.Meanings.{Makes, memory_after, argument_a, argument_b, argument_c, touches_memory, MemoryLaw, IsInstalled, IsTableCall, TableLaw, IsUnmapped, UnmapLaw, IsUninstalled, DeletedTableLaw, DeletedLineLaw}
use Rattle.call_table.proofs.ClaimLaws.{not_root}
use Rattle.call_table.proofs.TablesSlots.{filled_within, claim_at, cap_same, cap_other}
use Rattle.call_table.proofs.TablesMeaning.{page_tables}
use Rattle.call_table.proofs.QuietCalls.{Quiet, later_quiet}
use Rattle.call_table.proofs.ConfinedCalls.{ready}
use Rattle.call_table.proofs.MeaningSteps.{Whatever, Gives, given, bind_gives, give_gives, clear_gives, buffer_gives, install_gives, table_refusal_gives, check_gives, some_gives, filled_gives, allowed_gives}
use Rattle.call_table.proofs.MeaningNumbers.{by_number, cleared, unmap_is}

-- ---- TABLE

pub table_in_is : (c : Cap) (t : Directory) → table_in c ≡ Some t → c ≡ cap.Table t.frame t.installed
table_in_is (cap.Table f w) t is = ap (λ (u : Directory). cap.Table u.frame u.installed) (cc is)
table_in_is (cap.Frame f r w) t is = absurd (cc is)
table_in_is (cap.Irq line) t is = absurd (cc is)

nowhere : (w : Option ℕ) → not (is_some w) ≡ true → w ≡ None
nowhere None is = refl
nowhere (Some at) is = absurd (cc is)

module _ (e : Estate) (d : Dom) (m : Mem) (h : Kept e d m) where
  -- a table that is not installed, at the address of which the root's entry is written
  module _ (a va f : ℕ) (there : cap_at d.caps a ≡ Some (cap.Table f None)) where
    claimed : claims e d.caps a ≡ Claim.Directory f None
    unfolding claim_of region_of
    claimed = claim_at e d.caps a (cap.Table f None) there

    apart : f ≢ e.root
    apart = not_root e.root (is_mine e) (claims e d.caps) m h.facts a f None claimed

    entry_is : (at : ℕ) → vpn_1 at ≡ vpn_1 va → first_entry (installed m e.root va f) e.root at ≡ table_word f
    entry_is at same = first_is m e.root e.share.frames va (table_word f) (page_tables e d m h).map at same

    blank_is : (at : ℕ) → vpn_1 at ≡ vpn_1 va → second_entry (installed m e.root va f) e.root at ≡ 0
    blank_is at same =
        ap (λ (g : ℕ). word (installed m e.root va f) g (vpn_0 at)) (ap ppn (entry_is at same) ∙ ppn-table f)
        ∙ word-written_frame m e.root (vpn_1 va) (table_word f) f (vpn_0 at) apart
        ∙ h.facts.blank a f claimed (vpn_0 at)

    installed_means : IsInstalled e va f m (installed m e.root va f)
    installed_means = record {
      entry = entry_is va refl;
      may_map = λ at same aligned.
          map_free (installed m e.root va f) e.root at aligned
          (ap valid (entry_is at same) ∙ (points-table f).is_valid) (not_valid _ (blank_is at same));
      elsewhere = region_elsewhere m e.root e.share.frames va (table_word f) (page_tables e d m h).map;
    }

  module _ (f : ℕ) (named : table_of (cap_at d.caps (argument_a d)) ≡ Some f) where
    abbrev Installs : Dom → Mem → Type 0
    Installs x n = IsTableCall e d x m n f

    installs : (t : Directory) → cap_at d.caps (argument_a d) ≡ Some (cap.Table t.frame None)
        → Installs (done 0 (with_slot d (argument_a d) (noted (Some (cap.Table t.frame t.installed)) (Some (argument_b d)))))
        (installed m e.root (argument_b d) t.frame)
    unfolding replied placed with_caps with_current
    installs t there =
        let some : Some t.frame ≡ Some f = sym (ap table_of there) ∙ named in
        let same : t.frame ≡ f = cc some in
        let below : argument_a d < length d.caps = filled_within d.caps (argument_a d) (cap.Table t.frame None) there in
        record {
          done = record { threads = refl; reply = refl };
          installed =
              subst (λ (g : ℕ). IsInstalled e (argument_b d) g m (installed m e.root (argument_b d) t.frame)) same
              (installed_means (argument_a d) (argument_b d) t.frame there);
          slot = cap_same d.caps (argument_a d) (Some (cap.Table t.frame (Some (argument_b d)))) below
              ∙ ap (λ (g : ℕ). Some (cap.Table g (Some (argument_b d)))) same;
          others = λ i other. cap_other d.caps (argument_a d) i (Some (cap.Table t.frame (Some (argument_b d)))) other;
          rest = refl;
        }

    install_does : Gives Whatever Installs (install e d (argument_a d) (argument_b d) m)
    unfolding install
    install_does =
        filled_gives Whatever Installs m d (λ _. tt) (argument_a d) _ (λ _ c there.
        some_gives Whatever Installs m d (λ _. tt) 5 (table_in c) _ (λ t is.
        check_gives Whatever Installs m d (λ _. tt) 7 _ _ (λ _.
        check_gives Whatever Installs m d (λ _. tt) 8 _ _ (λ loose.
        table_refusal_gives Whatever Installs m e.root (argument_b d) _
        (allowed_gives Whatever Installs m d (λ _. tt) (install_refusal m e.root (argument_b d)) _ (λ _.
        install_gives Whatever Installs m e.root (argument_b d) t.frame _
        (give_gives Whatever Installs (installed m e.root (argument_b d) t.frame) _
        (subst (λ (y : Cap). Installs (done 0 (with_slot d (argument_a d) (noted (Some y) (Some (argument_b d)))))
        (installed m e.root (argument_b d) t.frame)) (sym (table_in_is c t is))
        (installs t (there ∙ ap Some (table_in_is c t is)
        ∙ ap (λ (w : Option ℕ). Some (cap.Table t.frame w)) (nowhere t.installed loose)))))))))))

pub table_means : TableLaw
unfolding call_of
table_means e d x m f h is does named =
    let same = by_number e d m 3 is in
    subst (λ (r : Done Mem Note Dom Dom). IsTableCall e d x m r.state f) (sym same)
    (given Whatever (Installs e d m h f named) (install e d (argument_a d) (argument_b d) m) (install_does e d m h f named) x
    (ap (λ (r : Done Mem Note Dom Dom). r.value) (sym same) ∙ does))

-- ---- UNMAP

module _ (e : Estate) (d : Dom) (m : Mem) (frame rights va : ℕ) (h : Kept e d m)
    (there : cap_at d.caps (argument_a d) ≡ Some (cap.Frame frame rights (Some va))) where
  within : argument_a d < length d.caps
  within = filled_within d.caps (argument_a d) (cap.Frame frame rights (Some va)) there

  cleared_means : IsUnmapped e d (either (cleared e d m frame rights va).value) m
      (cleared e d m frame rights va).state frame rights va
  unfolding replied placed with_caps either with_current
  cleared_means =
      let tables = page_tables e d m h in
      let table = (ready e d m h).mapped (argument_a d) frame rights va there in
      record {
        done = record { threads = refl; reply = refl };
        faults = cleared_fault m e.root e.share.frames va 0 tables.map table refl;
        elsewhere = page_elsewhere m e.root e.share.frames va 0 tables.map table tables.once;
        slot = cap_same d.caps (argument_a d) (Some (cap.Frame frame rights None)) within;
        others = λ i other. cap_other d.caps (argument_a d) i (Some (cap.Frame frame rights None)) other;
        rest = refl;
      }

pub unmap_means : UnmapLaw
unmap_means e d m frame rights va h is there =
    subst (λ (r : Done Mem Note Dom Dom). IsUnmapped e d (either r.value) m r.state frame rights va)
    (sym (unmap_is e d m frame rights va is
    (subst (λ (n : ℕ). argument_a d < n) h.slots (within e d m frame rights va h there)) there))
    (cleared_means e d m frame rights va h there)

-- ---- DELETE

module _ (e : Estate) (d : Dom) (m : Mem) (a : ℕ) where
  -- memory without the entry that the slot's capability stands for
  abbrev without_entry : Mem
  without_entry = (clear_entry e.root (cap_at d.caps a) m).state

  abbrev Cleared : Dom → Mem → Type 0
  Cleared x n = n ≡ without_entry

  delete_clears : Gives Whatever Cleared (delete e d a m)
  unfolding delete drop_slot
  delete_clears =
      filled_gives Whatever Cleared m d (λ _. tt) a _ (λ _ c there.
      check_gives Whatever Cleared m d (λ _. tt) 12 _ _ (λ _.
      bind_gives Whatever Cleared Cleared (drop_slot e a d) _ m
      (clear_gives Whatever Cleared m e.root (cap_at d.caps a) _ (give_gives Whatever Cleared _ _ refl)) (λ x n same.
      buffer_gives Whatever Cleared n _ (give_gives Whatever Cleared n _ same))))

deleted_memory : (e : Estate) (d x : Dom) (m : Mem) → Makes e d 7 → (call e d m).value ≡ inr x
    → memory_after e d m ≡ without_entry e d m (argument_a d)
unfolding call_of
deleted_memory e d x m is does =
    let same = by_number e d m 7 is in
    ap (λ (r : Done Mem Note Dom Dom). r.state) same
    ∙ given Whatever (Cleared e d m (argument_a d)) (delete e d (argument_a d) m) (delete_clears e d m (argument_a d)) x
    (ap (λ (r : Done Mem Note Dom Dom). r.value) (sym same) ∙ does)

pub deleted_table : DeletedTableLaw
unfolding clear_entry uninstall_at
deleted_table e d x m frame va h is does there =
    let map = (page_tables e d m h).map in
    subst (IsUninstalled e va m)
    (sym (deleted_memory e d x m is does ∙ ap (λ (o : Option Cap). (clear_entry e.root o m).state) there))
    (record {
      faults = uninstalled_fault m e.root e.share.frames va map;
      elsewhere = region_elsewhere m e.root e.share.frames va 0 map;
    })

pub deleted_line : DeletedLineLaw
unfolding clear_entry give
deleted_line e d x m line is does there =
    deleted_memory e d x m is does ∙ ap (λ (o : Option Cap). (clear_entry e.root o m).state) there

-- ---- calls that leave memory

-- memory as it was, and no work
record IsStill (m : Mem) (r : Done Mem Note Dom Dom) : Type 0 where
  memory : r.state ≡ m
  no_work : r.notes ≡ []

module _ (m : Mem) where
  give_still : (x : Dom) → IsStill m (give x m)
  unfolding give
  give_still x = record { memory = refl; no_work = refl }

  quiet_still : (d : Dom) (y : Act Dom) → Quiet d y → IsStill m (y m)
  quiet_still d y q = record { memory = q.memory m; no_work = q.no_work m }

  check_still : (x : Dom) (t : Bool) (y : Act Dom) → IsStill m (y m) → IsStill m ((check x t >> y) m)
  unfolding check ◌>>◌ ◌>>=◌ go_on give stop
  check_still x true y h = record { memory = h.memory; no_work = h.no_work }
  check_still x false y h = record { memory = refl; no_work = refl }

  some_still : {A : Type 0} (x : Dom) (o : Option A) (f : A → Act Dom) → ((a : A) → IsStill m (f a m))
      → IsStill m ((some_or x o >>= f) m)
  unfolding some_or ◌>>=◌ go_on give stop
  some_still x (Some a) f h = record { memory = (h a).memory; no_work = (h a).no_work }
  some_still x None f h = record { memory = refl; no_work = refl }

  unless_still : (d : Dom) (o : Option ℕ) (y : Act Dom) → IsStill m (y m)
      → IsStill m ((unless_refused d o >> y) m)
  unfolding unless_refused ◌>>◌ ◌>>=◌ go_on give stop
  unless_still d None y h = record { memory = h.memory; no_work = h.no_work }
  unless_still d (Some code) y h = record { memory = refl; no_work = refl }

  if_still : (t : Bool) (x y : Act Dom) → (t ≡ true → IsStill m (x m)) → IsStill m (y m)
      → IsStill m ((if t then x else y) m)
  if_still true x y h g = h refl
  if_still false x y h g = g

  put_still : (d : Dom) (a : ℕ) → IsStill m (put_byte d a m)
  unfolding put_byte
  put_still d a = check_still _ _ _ (give_still _)

  copy_still : (d : Dom) (a b c : ℕ) → IsStill m (copy d a b c m)
  unfolding copy is_slot
  copy_still d a b c =
      check_still _ _ _ (check_still _ _ _ (some_still _ (cap_at d.caps a) _ (λ x.
      check_still _ _ _ (unless_still d (copy_refusal x c) _ (give_still _)))))

  module _ (e : Estate) (d : Dom) (number : ℕ) (none : touches_memory number ≡ false) where
    touching : (k : ℕ) {r : Done Mem Note Dom Dom} → touches_memory k ≡ true → nat_eq number k ≡ true
        → IsStill m r
    touching k is same =
        absurd (true≢false (sym is ∙ ap touches_memory (sym (eqb-true number k same)) ∙ none))

    call_still : (a b c : ℕ) → IsStill m (call_of e d number a b c m)
    unfolding call_of
    call_still a b c =
        if_still (nat_eq number 0) _ _ (λ _. give_still (exited a d))
        (if_still (nat_eq number 1) _ _ (λ _. put_still d a)
        (if_still (nat_eq number 2) _ _ (λ is. touching 2 refl is)
        (if_still (nat_eq number 3) _ _ (λ is. touching 3 refl is)
        (if_still (nat_eq number 4) _ _ (λ is. touching 4 refl is)
        (if_still (nat_eq number 5) _ _ (λ is. touching 5 refl is)
        (if_still (nat_eq number 6) _ _ (λ _. copy_still d a b c)
        (if_still (nat_eq number 7) _ _ (λ is. touching 7 refl is)
        (if_still (nat_eq number 8) _ _ (λ is. touching 8 refl is)
        (quiet_still d _ (later_quiet d number a b))))))))))

pub memory_stays : MemoryLaw
unfolding call
memory_stays e d m none =
    let still = call_still m e d (number_made e d) none (argument_a d) (argument_b d) (argument_c d) in
    record { memory = still.memory; no_work = still.no_work }
