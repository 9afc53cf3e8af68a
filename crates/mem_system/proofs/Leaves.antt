-- Look-ups: what a walk read, and the leaf words that the buffer keeps.
use Rattle.std.proofs.Common.{arith, ◌≡◌, ◌≢◌, ◌∙◌, sym, refl, ap, subst, inl, inr, ℕ, ◌<◌, ◌≤◌, ◌/◌, ◌^◌, List, [], ◌∷◌, length, take, Some, None, false}
use Rattle.std.specs.Prelude.{Result, Ok, Err, IfOk, is_some}
use Rattle.std.proofs.lemmas.Bool.{cases_eq}
use Rattle.phys_mem.specs.Mem.{Mem}
use Rattle.sv32_walk.specs.declared.access.Access.{Access}
use Rattle.sv32_walk.specs.declared.access.WalkFault.{WalkFault}
use Rattle.sv32_walk.specs.PageTableEntry.{ppn}
use Rattle.sv32_walk.specs.Walk.{walk, padded}
use Rattle.sv32_walk.specs.KeptLeaf.{end_at, IsLeafOf}
use Rattle.sv32_walk.proofs.KeptLeafLemmas.{walk_again, leaf_within}
use Rattle.set_cache.specs.Rule.{Rule}
use Rattle.set_cache.specs.Cache.{Sets, place_of}
use Rattle.set_cache.specs.Contents.{StandsFor, shape_of}
use Rattle.tlb_model.specs.Buffer.{Buffer, leaf_of}
use Rattle.mem_system.specs.Translation.{KeepsLeaves, address_in, translated}

-- the first places of the padded array are the walk's reads
pub reads_of : (count : ℕ) (array reads : List ℕ) → array ≡ padded reads → count ≡ length reads → count ≤ 2
    → take count array ≡ reads
reads_of count array [] padding counted few = rw (padding, counted) refl
reads_of count array (first ∷ []) padding counted few = rw (padding, counted) refl
reads_of count array (first ∷ second ∷ []) padding counted few = rw (padding, counted) refl
reads_of count array (first ∷ second ∷ third ∷ rest) padding counted few = absurd (omega (arith, counted, few))

one_leaf : (a b : ℕ) → Some a ≡ Some b → a ≡ b
one_leaf a b e = cc

-- after a fill with its walk's leaf each page's leaf is its walk's
pub keeps_filled : {P : Type 0} (mem : Mem) (frames root page leaf : ℕ) (old new : Buffer P)
    → IsLeafOf mem frames root page leaf → leaf_of new page ≡ Some leaf
    → ((other word : ℕ) → other ≢ page → leaf_of new other ≡ Some word → leaf_of old other ≡ Some word)
    → KeepsLeaves mem frames root old → KeepsLeaves mem frames root new
keeps_filled mem frames root page leaf old new walked filled others keeps = record {
  each = λ other word e. elim (cases_eq other page) [
    | inl same ↦
        let word_is : leaf ≡ word = one_leaf leaf word (sym filled ∙ ap (leaf_of new) (sym same) ∙ e) in
        subst (IsLeafOf mem frames root other) word_is (subst (λ (p : ℕ). IsLeafOf mem frames root p leaf) (sym same) walked)
    | inr apart ↦ keeps.each other word (others other word apart e)
  ];
}

-- the leaf that a walk of an address ended with is its page's
pub leaf_of_walk : (mem : Mem) (frames root va leaf : ℕ) (access : Access) (result : Result ℕ WalkFault)
    → va < 2 ^ 32 → result ≡ (walk mem frames root va access).result → result ≡ Ok leaf → IsLeafOf mem frames root (va / 4096) leaf
leaf_of_walk mem frames root va leaf access result small same ended =
    record { at = va; access = access; small = small; in_page = refl; walked = sym same ∙ ended }

-- a kept leaf answers as the walk does
pub answered : {P : Type 0} (mem : Mem) (frames root va leaf : ℕ) (access : Access)
    (result : Result ℕ WalkFault) (buffer : Buffer P)
    → (ppn leaf < 2 ^ 20 → result ≡ translated va (end_at access leaf)) → frames ≤ 2 ^ 15 → leaf_of buffer (va / 4096) ≡ Some leaf
    → KeepsLeaves mem frames root buffer → result ≡ translated va (walk mem frames root va access).result
answered mem frames root va leaf access result buffer ends few kept keeps =
    let is : IsLeafOf mem frames root (va / 4096) leaf = keeps.each (va / 4096) leaf kept in
    let within : ppn leaf < frames = leaf_within mem frames root (va / 4096) leaf is in
    ends (omega (arith, within, few)) ∙ ap (translated va) (sym (walk_again mem frames root (va / 4096) leaf va access is refl))

address_below : (frames va leaf : ℕ) → ppn leaf < frames → address_in leaf va / 4096 < frames
address_below frames va leaf within = omega (arith, within)

end_within : (mem : Mem) (frames root va : ℕ) (access : Access) (end : Result ℕ WalkFault) → va < 2 ^ 32
    → (walk mem frames root va access).result ≡ end
    → IfOk (translated va end) (λ at. at / 4096 < frames)
end_within mem frames root va access (Ok leaf) small e =
    address_below frames va leaf
    (leaf_within mem frames root (va / 4096) leaf
    (record { at = va; access = access; small = small; in_page = refl; walked = e }))
end_within mem frames root va access (Err fault) small e = tt

-- a translated address lies in memory
pub translated_within : (mem : Mem) (frames root va : ℕ) (access : Access) (result : Result ℕ WalkFault)
    → va < 2 ^ 32 → result ≡ translated va (walk mem frames root va access).result → IfOk result (λ at. at / 4096 < frames)
translated_within mem frames root va access result small e =
    subst (λ (r : Result ℕ WalkFault). IfOk r (λ at. at / 4096 < frames)) (sym e)
    (end_within mem frames root va access (walk mem frames root va access).result small refl)

-- kept leaves stay their walks' in another memory, where each walk that found a leaf finds it there too
pub keeps_by : {P : Type 0} (old new : Mem) (frames root : ℕ) (buffer : Buffer P)
    → ((at leaf : ℕ) (access : Access) → at < 2 ^ 32 → (walk old frames root at access).result ≡ Ok leaf
    → (walk new frames root at access).result ≡ Ok leaf)
    → KeepsLeaves old frames root buffer → KeepsLeaves new frames root buffer
keeps_by old new frames root buffer stays keeps = record {
  each = λ page leaf kept.
      let is : IsLeafOf old frames root page leaf = keeps.each page leaf kept in
      record {
        at = is.at;
        access = is.access;
        small = is.small;
        in_page = is.in_page;
        walked = stays is.at leaf is.access is.small is.walked;
      };
}

-- what a look-up missed isn't held afterwards
pub missed_still : {P : Type 0} (rule : P → ℕ → Rule) (stands : P → ℕ → ℕ → List ℕ → Type 0)
    (old new : Buffer P) (page : ℕ)
    → new ≡ old
    → ((sets : Sets) → StandsFor stands old.pages sets → false ≡ is_some (place_of (shape_of rule old.pages) sets page))
    → (sets : Sets) → StandsFor stands new.pages sets → is_some (place_of (shape_of rule new.pages) sets page) ≡ false
missed_still {P} rule stands old new page same found sets stand =
    rw same (sym (found sets (subst (λ (b : Buffer P). StandsFor stands b.pages sets) same stand)))

-- nothing is kept where no page has a leaf
pub keeps_none : {P : Type 0} (mem : Mem) (frames root : ℕ) (buffer : Buffer P)
    → ((page : ℕ) → leaf_of buffer page ≡ None)
    → KeepsLeaves mem frames root buffer
keeps_none mem frames root buffer none = record { each = λ page leaf is. absurd (cc (sym (none page) ∙ is)) }
