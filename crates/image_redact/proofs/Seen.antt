-- What is seen of the kept domain is the same.
use Rattle.std.specs.List.{All}
use Rattle.std.proofs.Common.{◌≡◌, ◌≢◌, ℕ, ◌<◌, [], length, sym, ap, ap₂, subst, ◌∙◌, arith}
use Rattle.sched_table.specs.Schedule.{hart_for}
use Rattle.image_record.specs.Record.{Raw, InKeyRanges}
use Rattle.image_check.specs.Public.{Public}
use Rattle.image_check.specs.Own.{Own}
use Rattle.image_check.specs.Image.{image_from}
use Rattle.image_check.specs.Checking.{broken}
use Rattle.image_check.specs.Laws.{Runnable}
use Rattle.image_check.proofs.Running.{runnable_law}
use Rattle.image_check.proofs.Owns.{owns_length}
use Rattle.world_view.specs.View.{view_alone}
use Rattle.world_view.specs.Harts.{public_on, hart_of_domain, slots_of, harts, view_mailed_on, view_alone_on}
use Rattle.world_view.specs.HartLaws.{IsBetween}
use Rattle.world_view.specs.Relations.{IsDomain}
use Rattle.world_view.proofs.harts.Isolation.{hart_isolation}
use Rattle.world_view.proofs.mail.Senders.{senders_law}
use Rattle.image_redact.specs.Redacted.{redacted}
use Rattle.image_redact.specs.Laws.{FirstSaysNoCalls, SeenAloneLaw, SeenLaw, SeenTogetherLaw}
use Rattle.image_redact.proofs.Alike.{alike_law, long}
use Rattle.image_redact.proofs.Leading.{kept_law, itself_kept}
use Rattle.image_redact.proofs.Ranges.{ranges_law}
use Rattle.image_redact.proofs.Kept.{accepted_law}

pub seen_alone : SeenAloneLaw
unfolding view_mailed_on
seen_alone i d n l =
    let same = alike_law i d in
    ap₂ (λ (p : Public) (o : Own). view_alone (public_on p (hart_for p.schedule d)) o d n) same.all
    (same.own d (itself_kept i d l))

module _ (i : Raw) (d : ℕ) (ranges : InKeyRanges i) (first : FirstSaysNoCalls i) (accepted : broken i ≡ []) (l : d < length i.domains) where
  pub runs : Runnable (image_from i)
  runs = runnable_law i ranges accepted

  pub runs_too : Runnable (image_from (redacted i d))
  runs_too = runnable_law (redacted i d) (ranges_law i d ranges) (accepted_law i d first accepted)

  pub here : IsDomain (image_from i) d
  here = let many = owns_length i in omega (arith, many, l)

  pub there : IsDomain (image_from (redacted i d)) d
  there =
      let many = owns_length (redacted i d) in
      let same = long i d in
      omega (arith, many, same, l)

  same_hart : hart_of_domain (image_from i) d ≡ hart_of_domain (image_from (redacted i d)) d
  same_hart = ap (λ (p : Public). hart_for p.schedule d) (alike_law i d).all

pub seen_law : SeenLaw
seen_law i d one two ranges first accepted l none of_one of_two slots between between_too =
    let x = image_from i in
    let y = image_from (redacted i d) in
    let s = harts x one in
    let t = harts y two in
    let hart = same_hart i d ranges first accepted l in
    let moved = subst (λ (h : ℕ). IsBetween y h t) hart between_too in
    let whole = hart_isolation x d one (runs i d ranges first accepted l) (here i d ranges first accepted l) none of_one between in
    let none_too = subst (λ (p : Public). All (λ box. box.1 ≢ d) p.mail) (alike_law i d).all none in
    let whole_too = hart_isolation y d two (runs_too i d ranges first accepted l) (there i d ranges first accepted l) none_too of_two moved in
    whole ∙ ap (λ (n : ℕ). view_alone_on x d n) slots ∙ seen_alone i d (slots_of (hart_of_domain x d) t) l
    ∙ ap (λ (h : ℕ). view_alone_on y d (slots_of h t)) hart
    ∙ sym whole_too

pub seen_together : SeenTogetherLaw
seen_together i d n ranges first accepted l one =
    let same = alike_law i d in
    senders_law (image_from i) (image_from (redacted i d)) d n (runs i d ranges first accepted l)
    (runs_too i d ranges first accepted l) one (here i d ranges first accepted l) same.all
    (λ e chain. same.own e ((kept_law i d e accepted l).1 chain))
