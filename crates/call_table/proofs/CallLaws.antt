-- Calls keep the facts: ALLOC, TABLE, MAP, UNMAP and COPY.
use Rattle.std.proofs.Common.{◌≡◌, ℕ, ◌<◌, ◌%◌, Bool, true, false, not, ◌&&◌, Option, Some, None, is_some, ◌⊎◌, inl, inr, refl, ap, sym, subst, ◌∙◌}
use Rattle.std.specs.Prelude.{nat_eq, if◌then◌else◌}
use Rattle.tp_base.specs.Rights.{are_good}
use Rattle.phys_mem.specs.Mem.{Mem, word, written, zeroed_frame}
use Rattle.sv32_walk.specs.PageTableEntry.{valid, ppn, vpn_0, vpn_1, leaf_word}
use Rattle.sv32_walk.specs.Translation.{second_entry}
use Rattle.sv32_walk.proofs.WordLemmas.{ppn-table}
use Rattle.sv32_walk.proofs.EntryLemmas.{first_of_both}
use Rattle.page_map.specs.declared.refusal.MapRefusal.{MapRefusal}
use Rattle.page_map.specs.Tables.{has_table, has_page, map_refusal, install_refusal}
use Rattle.page_map.specs.Tables as tables
use Rattle.page_map.specs.Changes.{mapped, unmapped, installed}
use Rattle.cap_table.specs.declared.Cap.{Cap}
use Rattle.cap_table.specs.declared.Cap.TheVariants as cap
use Rattle.cap_table.specs.Slots.{cap_at, is_filled, copied, noted}
use Rattle.call_table.specs.Domain.{Dom}
use Rattle.call_table.specs.Claims.{Claim, Estate, is_mine, entry_places, region_of, claim_of, claims, least_free, IsTable, IsMapped, IsEstate}
use Rattle.call_table.specs.Claims.Claim.{Nothing, Leaf, Directory}
use Rattle.call_table.specs.Calls.{fresh_cap, alloc, table_in, Directory as TableCap, install, page_in, Page, is_within, map_page, unmap, copy_refusal, copy}
use Rattle.call_table.specs.Laws.{Kept, LeavesKept}
use Rattle.call_table.proofs.ClaimLawsSlots.{claims_at, IsFree, least_is_free, unnamed}
use Rattle.call_table.proofs.StepLaws.{mapping, unmapping, installing, claiming, copying, idling}
use Rattle.call_table.proofs.CallLawsSteps.{FactsWith, Ends, kept_with, give_ends, check_ends, some_ends, slot_ends, filled_ends, page_refusal_ends, table_refusal_ends, allowed_ends, unless_ends, zero_ends, map_at_ends, unmap_at_ends, install_at_ends, buffer_ends}

-- ---- capabilities and their claims

pub empty_claim : (x : Option Cap) → not (is_filled x) ≡ true → claim_of x ≡ Nothing
unfolding claim_of
empty_claim None h = refl
empty_claim (Some c) h = absurd (cc h)

pub page_claim : (x : Cap) (page : Page) → page_in x ≡ Some page
    → claim_of (Some x) ≡ Leaf true page.frame (entry_places page.mapped)
unfolding claim_of
page_claim (cap.Frame f rights w) page h =
    let same : record { frame = f; rights = rights; mapped = w } ≡ page = cc h in
    ap (λ (p : Page). Leaf true p.frame (entry_places p.mapped)) same
page_claim (cap.Table f w) page h = absurd (cc h)
page_claim (cap.Irq line) page h = absurd (cc h)

pub page_noted : (x : Cap) (page : Page) (at : Option ℕ) → page_in x ≡ Some page
    → claim_of (noted (Some x) at) ≡ Leaf true page.frame (entry_places at)
unfolding claim_of
page_noted (cap.Frame f rights w) page at h =
    let same : record { frame = f; rights = rights; mapped = w } ≡ page = cc h in
    ap (λ (p : Page). Leaf true p.frame (entry_places at)) same
page_noted (cap.Table f w) page at h = absurd (cc h)
page_noted (cap.Irq line) page at h = absurd (cc h)

pub table_claim : (x : Cap) (t : TableCap) → table_in x ≡ Some t
    → claim_of (Some x) ≡ Directory t.frame (region_of t.installed)
unfolding claim_of
table_claim (cap.Frame f rights w) t h = absurd (cc h)
table_claim (cap.Table f w) t h =
    let same : record { frame = f; installed = w } ≡ t = cc h in
    ap (λ (p : TableCap). Directory p.frame (region_of p.installed)) same
table_claim (cap.Irq line) t h = absurd (cc h)

pub table_noted : (x : Cap) (t : TableCap) (at : Option ℕ) → table_in x ≡ Some t
    → claim_of (noted (Some x) at) ≡ Directory t.frame (region_of at)
unfolding claim_of
table_noted (cap.Frame f rights w) t at h = absurd (cc h)
table_noted (cap.Table f w) t at h =
    let same : record { frame = f; installed = w } ≡ t = cc h in
    ap (λ (p : TableCap). Directory p.frame (region_of at)) same
table_noted (cap.Irq line) t at h = absurd (cc h)

none_there : (w : Option ℕ) → not (is_some w) ≡ true → w ≡ None
none_there None h = refl
none_there (Some a) h = absurd (cc h)

no_place : (w : Option ℕ) → not (is_some w) ≡ true → entry_places w ≡ None
unfolding entry_places
no_place w h = ap entry_places (none_there w h)

no_region : (w : Option ℕ) → not (is_some w) ≡ true → region_of w ≡ None
unfolding region_of
no_region w h = ap region_of (none_there w h)

-- ---- ALLOC

fresh_is : (t : Bool) (f : ℕ)
    → (claim_of (Some (if t then cap.Frame f 7 None else cap.Table f None)) ≡ Leaf true f None)
    ⊎ (claim_of (Some (if t then cap.Frame f 7 None else cap.Table f None)) ≡ Directory f None)
unfolding claim_of entry_places region_of
fresh_is true f = inl refl
fresh_is false f = inr refl

pub alloc_facts : (e : Estate) (d : Dom) (m : Mem) (a b f : ℕ) → Kept e d m → a < 64
    → not (is_filled (cap_at d.caps a)) ≡ true
    → least_free e d.caps ≡ Some f
    → FactsWith e d a (claim_of (Some (fresh_cap b f))) (zeroed_frame m f)
alloc_facts e d m a b f h below empty least =
    let free : IsFree e d.caps f = least_is_free e d.caps f least in
    claiming e.root (is_mine e) (claims e d.caps) m h.facts a
    (claims_at e d.caps h.slots a below ∙ empty_claim (cap_at d.caps a) empty)
    f free.own (unnamed e d.caps f free.not_named) true (claim_of (Some (fresh_cap b f))) (fresh_is (nat_eq b 0) f)

alloc_ends : (e : Estate) (d : Dom) (m : Mem) (a b : ℕ) → Kept e d m → Ends e (alloc e d a b m)
unfolding alloc
alloc_ends e d m a b h =
    slot_ends e d m a _ h (λ below.
    check_ends e d m 4 _ _ h (λ empty.
    check_ends e d m 5 _ _ h (λ _.
    some_ends e d m 10 _ _ h (λ f least.
    zero_ends e m f _
    (give_ends e _ _ (kept_with e d m (zeroed_frame m f) a (Some (fresh_cap b f)) 0 h below
    (alloc_facts e d m a b f h below empty least)))))))

pub alloc_keeps : (e : Estate) (d : Dom) (m : Mem) (a b : ℕ) → IsEstate e → Kept e d m
    → LeavesKept e (alloc e d a b m)
alloc_keeps e d m a b s h = (alloc_ends e d m a b h).kept

-- ---- TABLE

install_tests : (a t : Bool) (x y : MapRefusal)
    → (if not a then Some x else (if t then Some y else None)) ≡ None → t ≡ false
install_tests true true x y h = absurd (cc h)
install_tests true false x y h = refl
install_tests false t x y h = absurd (cc h)

pub install_allowed : (m : Mem) (root va : ℕ) → install_refusal m root va ≡ None → has_table m root va ≡ false
unfolding install_refusal
install_allowed m root va h = install_tests (nat_eq (va % 4194304) 0) (has_table m root va) _ _ h

pub install_facts : (e : Estate) (d : Dom) (m : Mem) (a b : ℕ) (c : Cap) (t : TableCap) → Kept e d m → a < 64
    → cap_at d.caps a ≡ Some c
    → table_in c ≡ Some t → not (is_some t.installed) ≡ true → install_refusal m e.root b ≡ None
    → FactsWith e d a (claim_of (noted (Some c) (Some b))) (installed m e.root b t.frame)
unfolding region_of
install_facts e d m a b c t h below there is loose_one ok =
    let claim : claims e d.caps a ≡ Directory t.frame None =
    claims_at e d.caps h.slots a below ∙ ap claim_of there ∙ table_claim c t is
    ∙ ap (Directory t.frame) (no_region t.installed loose_one) in
    let facts : FactsWith e d a (Directory t.frame (Some (vpn_1 b))) (installed m e.root b t.frame) =
    installing e.root (is_mine e) (claims e d.caps) m h.facts a t.frame (vpn_1 b) claim (install_allowed m e.root b ok) in
    subst (λ (y : Claim). FactsWith e d a y (installed m e.root b t.frame))
    (sym (table_noted c t (Some b) is)) facts

install_ends : (e : Estate) (d : Dom) (m : Mem) (a b : ℕ) → Kept e d m → Ends e (install e d a b m)
unfolding install
install_ends e d m a b h =
    filled_ends e d m a _ h (λ c below there.
    some_ends e d m 5 _ _ h (λ t is.
    check_ends e d m 7 _ _ h (λ _.
    check_ends e d m 8 _ _ h (λ loose_one.
    table_refusal_ends e m e.root b _
    (allowed_ends e d m _ _ h (λ ok.
    install_at_ends e m e.root b t.frame _
    (give_ends e _ _ (kept_with e d m (installed m e.root b t.frame) a (noted (Some c) (Some b)) 0 h below
    (install_facts e d m a b c t h below there is loose_one ok)))))))))

pub install_keeps : (e : Estate) (d : Dom) (m : Mem) (a b : ℕ) → IsEstate e → Kept e d m
    → LeavesKept e (install e d a b m)
install_keeps e d m a b s h = (install_ends e d m a b h).kept

-- ---- MAP

pub record CanTake (m : Mem) (root va : ℕ) : Type 0 where
  pub table : has_table m root va ≡ true
  pub no_page : valid (second_entry m root va) ≡ false

map_tests : (a t p : Bool) (x y z : MapRefusal)
    → (if not a then Some x else (if t && p then Some y else (if t then None else Some z))) ≡ None → (t ≡ true) × (p ≡ false)
map_tests false t p x y z h = absurd (cc h)
map_tests true true true x y z h = absurd (cc h)
map_tests true true false x y z h = (refl, refl)
map_tests true false p x y z h = absurd (cc h)

pub map_allowed : (m : Mem) (root va : ℕ) → map_refusal m root va ≡ None → CanTake m root va
unfolding map_refusal
map_allowed m root va h =
    let p = map_tests (nat_eq (va % 4096) 0) (has_table m root va) (valid (second_entry m root va)) _ _ _ h in
    record { table = p.0; no_page = p.1 }

pub map_facts : (e : Estate) (d : Dom) (m : Mem) (a b c : ℕ) (x : Cap) (page : Page) → Kept e d m → a < 64
    → cap_at d.caps a ≡ Some x
    → page_in x ≡ Some page → are_good c ≡ true → not (is_some page.mapped) ≡ true → map_refusal m e.root b ≡ None
    → FactsWith e d a (claim_of (noted (Some x) (Some b))) (mapped m e.root b page.frame c)
unfolding entry_places
map_facts e d m a b c x page h below there is good loose_one ok =
    let claim : claims e d.caps a ≡ Leaf true page.frame None =
    claims_at e d.caps h.slots a below ∙ ap claim_of there ∙ page_claim x page is
    ∙ ap (Leaf true page.frame) (no_place page.mapped loose_one) in
    let can : CanTake m e.root b = map_allowed m e.root b ok in
    let l : IsTable (claims e d.caps) (word m e.root (vpn_1 b)) (vpn_1 b) = h.facts.tables (vpn_1 b) can.table in
    let frame : tables.table_of m e.root b ≡ l.frame = ap ppn l.entry_is ∙ ppn-table l.frame in
    let bad : valid (word m l.frame (vpn_0 b)) ≡ false = subst (λ (g : ℕ). valid (word m g (vpn_0 b)) ≡ false) frame can.no_page in
    let facts : FactsWith e d a (Leaf true page.frame (Some (vpn_1 b, vpn_0 b)))
    (written m l.frame (vpn_0 b) (leaf_word page.frame c)) =
    mapping e.root (is_mine e) (claims e d.caps) m h.facts a true page.frame claim
    l.slot l.frame (vpn_1 b) (vpn_0 b) c good l.claim bad in
    subst (λ (y : Claim). FactsWith e d a y (mapped m e.root b page.frame c))
    (sym (page_noted x page (Some b) is))
    (subst (λ (g : ℕ). FactsWith e d a (Leaf true page.frame (Some (vpn_1 b, vpn_0 b)))
    (written m g (vpn_0 b) (leaf_word page.frame c))) (sym frame) facts)

map_page_ends : (e : Estate) (d : Dom) (m : Mem) (a b c : ℕ) → Kept e d m → Ends e (map_page e d a b c m)
unfolding map_page
map_page_ends e d m a b c h =
    filled_ends e d m a _ h (λ x below there.
    some_ends e d m 5 _ _ h (λ page is.
    check_ends e d m 6 _ _ h (λ may.
    check_ends e d m 7 _ _ h (λ _.
    check_ends e d m 8 _ _ h (λ loose_one.
    page_refusal_ends e m e.root b _
    (allowed_ends e d m _ _ h (λ ok.
    map_at_ends e m e.root b page.frame c _
    (give_ends e _ _ (kept_with e d m (mapped m e.root b page.frame c) a (noted (Some x) (Some b)) 0 h below
    (map_facts e d m a b c x page h below there is (first_of_both (are_good c) (is_within c page.rights) may) loose_one ok))))))))))

pub map_page_keeps : (e : Estate) (d : Dom) (m : Mem) (a b c : ℕ) → IsEstate e → Kept e d m
    → LeavesKept e (map_page e d a b c m)
map_page_keeps e d m a b c s h = (map_page_ends e d m a b c h).kept

-- ---- UNMAP

-- the table that an address's first entry names is the one that a claim says is installed there
pub table_at : (e : Estate) (d : Dom) (m : Mem) (va i f : ℕ) → Kept e d m
    → claims e d.caps i ≡ Directory f (Some (vpn_1 va))
    → tables.table_of m e.root va ≡ f
table_at e d m va i f h claim = ap ppn (h.facts.installed i f (vpn_1 va) claim) ∙ ppn-table f

pub unmap_facts : (e : Estate) (d : Dom) (m : Mem) (a va : ℕ) (c : Cap) (page : Page) → Kept e d m → a < 64
    → cap_at d.caps a ≡ Some c
    → page_in c ≡ Some page → page.mapped ≡ Some va
    → FactsWith e d a (claim_of (noted (Some c) None)) (unmapped m e.root va)
unfolding entry_places
unmap_facts e d m a va c page h below there is at =
    let claim : claims e d.caps a ≡ Leaf true page.frame (Some (vpn_1 va, vpn_0 va)) =
    claims_at e d.caps h.slots a below ∙ ap claim_of there ∙ page_claim c page is
    ∙ ap (λ w. Leaf true page.frame (entry_places w)) at in
    let l : IsMapped (claims e d.caps) m page.frame (vpn_1 va) (vpn_0 va) =
    h.facts.mapped a true page.frame (vpn_1 va) (vpn_0 va) claim in
    let facts : FactsWith e d a (Leaf true page.frame None) (written m l.frame (vpn_0 va) 0) =
    unmapping e.root (is_mine e) (claims e d.caps) m h.facts a true page.frame (vpn_1 va) (vpn_0 va) l.slot l.frame claim l.claim in
    subst (λ (y : Claim). FactsWith e d a y (unmapped m e.root va))
    (sym (page_noted c page None is))
    (subst (λ (g : ℕ). FactsWith e d a (Leaf true page.frame None) (written m g (vpn_0 va) 0))
    (sym (table_at e d m va l.slot l.frame h l.claim)) facts)

unmap_ends : (e : Estate) (d : Dom) (m : Mem) (a : ℕ) → Kept e d m → Ends e (unmap e d a m)
unfolding unmap
unmap_ends e d m a h =
    filled_ends e d m a _ h (λ c below there.
    some_ends e d m 5 _ _ h (λ page is.
    some_ends e d m 7 _ _ h (λ va at.
    unmap_at_ends e m e.root va _
    (buffer_ends e _ _
    (give_ends e _ _ (kept_with e d m (unmapped m e.root va) a (noted (Some c) None) 0 h below
    (unmap_facts e d m a va c page h below there is at)))))))

pub unmap_keeps : (e : Estate) (d : Dom) (m : Mem) (a : ℕ) → IsEstate e → Kept e d m
    → LeavesKept e (unmap e d a m)
unmap_keeps e d m a s h = (unmap_ends e d m a h).kept

-- ---- COPY

pub copy_facts : (e : Estate) (d : Dom) (m : Mem) (a b c : ℕ) (x : Cap) → Kept e d m → a < 64 → b < 64
    → cap_at d.caps a ≡ Some x
    → not (is_filled (cap_at d.caps b)) ≡ true → copy_refusal x c ≡ None
    → FactsWith e d b (claim_of (copied (Some x) c)) m
unfolding claim_of entry_places
copy_facts e d m a b c (cap.Frame f rights w) h below in_range there empty ok =
    copying e.root (is_mine e) (claims e d.caps) m h.facts a b
    (λ same.
    let p : not (is_filled (cap_at d.caps a)) ≡ true =
    subst (λ (n : ℕ). not (is_filled (cap_at d.caps n)) ≡ true) same empty in
    let q : false ≡ true = sym (ap (λ z. not (is_filled z)) there) ∙ p in absurd (cc q))
    (claims_at e d.caps h.slots b in_range ∙ empty_claim (cap_at d.caps b) empty)
    f (entry_places w) (claims_at e d.caps h.slots a below ∙ ap claim_of there)
copy_facts e d m a b c (cap.Table f w) h below in_range there empty ok = absurd (cc ok)
copy_facts e d m a b c (cap.Irq line) h below in_range there empty ok =
    idling e.root (is_mine e) (claims e d.caps) m h.facts b
    (claims_at e d.caps h.slots b in_range ∙ empty_claim (cap_at d.caps b) empty)

copy_ends : (e : Estate) (d : Dom) (m : Mem) (a b c : ℕ) → Kept e d m → Ends e (copy d a b c m)
unfolding copy
copy_ends e d m a b c h =
    slot_ends e d m a _ h (λ below.
    slot_ends e d m b _ h (λ in_range.
    some_ends e d m 3 _ _ h (λ x there.
    check_ends e d m 4 _ _ h (λ empty.
    unless_ends e d m _ _ h (λ ok.
    give_ends e _ _ (kept_with e d m m b (copied (Some x) c) 0 h in_range
    (copy_facts e d m a b c x h below in_range there empty ok)))))))

pub copy_keeps : (e : Estate) (d : Dom) (m : Mem) (a b c : ℕ) → IsEstate e → Kept e d m
    → LeavesKept e (copy d a b c m)
copy_keeps e d m a b c s h = (copy_ends e d m a b c h).kept
