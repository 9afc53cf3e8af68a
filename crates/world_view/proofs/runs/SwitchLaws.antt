-- What a switch does to a domain: out of it, into it, and between others.
use Rattle.mail_slots.specs.Boxes.{Boxes}
use Rattle.mail_slots.specs.Sides.{arrival}
use Rattle.world_view.specs.Mail.{left_boxes}
use Rattle.world_view.proofs.runs.BoxLaws.{others_leave_boxes, own_leave_boxes, others_enter_boxes, own_enters_boxes}
use Rattle.std.proofs.Common.{◌≡◌, ◌≢◌, ℕ, zero, suc, Bool, true, false, [], Option, Some, ap, sym, ◌∙◌, refl, subst}
use Rattle.set_cache.specs.Cache.{set_at}
use Rattle.set_cache.proofs.Dirty.{EachDirty-empty}
use Rattle.hardware_check.specs.Hardware.{Hardware, IsHardware}
use Rattle.image_check.specs.Own.{Own}
use Rattle.image_check.specs.Image.{Image, own_of}
use Rattle.mem_system.specs.Cost.{Caches, fresh_core, and_then, touched, on_core, flushed, pass_on}
use Rattle.mem_system.specs.Operations.{leave, enter}
use Rattle.mem_system.specs.Sharing as sharing
use Rattle.mem_system.specs.Sharing.{IsOwnLine, AreApart, BesideTouched}
use Rattle.sched_table.specs.Schedule.{entry_of_slot, outgoing}
use Rattle.world_view.specs.Kernel.{layout}
use Rattle.world_view.specs.Cost.{hierarchy, region, own_colour}
use Rattle.world_view.specs.Machine.{with_hart, with_mail, caches_of, Local, World, leave_part, prefetch_part, flush_part, enter_part, leave_by, prefetch_by, flush_by, switch_work_by, switch_work, guarded, dom_of, part_of, switch_on, alone_enter, alone_out}
use Rattle.world_view.specs.Laws.{SwitchWorkLaw, BootWorkLaw}
use Rattle.world_view.specs.Relations.{IsDomain, SameFrames, SameSide, SameSets, OwnDirty, IsKernel, AreParties, left_colours, Within, Apiece, InTime}
use Rattle.world_view.proofs.opening.Separate.{Separated}
use Rattle.world_view.proofs.opening.OpeningFacts.{kernel_of, parties_of}
use Rattle.world_view.proofs.touches.KernelTouches.{leave_may, enter_may}
use Rattle.world_view.proofs.touches.CostLaws.{own_lines, own_dirties, prefetch_others, flush_others, prefetch_dirties, flush_beside}
use Rattle.world_view.proofs.time.TimeLaws.{switch_on_start}
use Rattle.world_view.proofs.runs.SwitchParts.{caches-with}
use Rattle.world_view.proofs.runs.PartyLaws.{others_leave, others_enter, settled}

-- ---- its parts

pub switch_parts : SwitchWorkLaw
unfolding switch_work_by leave_by prefetch_by flush_by guarded
switch_parts i d e c = refl

pub boot_parts : BootWorkLaw
unfolding switch_work_by leave_by prefetch_by flush_by guarded
boot_parts i e c = refl

-- prefetch and flush
unfoldable pub prepared : Hardware → Caches → Caches
prepared p c = (flush_part (hierarchy p) false (prefetch_part (hierarchy p) (region p) c).caches).caches

-- nothing is dirty after the flush
prepared_dirty : (p : Hardware) (others : ℕ → Bool) (c : Caches)
    → sharing.OwnDirty (hierarchy p) others (prepared p c).core
unfolding prepared touched on_core flushed fresh_core pass_on
prepared_dirty p others c = EachDirty-empty (IsOwnLine (hierarchy p) others) (hierarchy p).l1d

-- ---- what they do to a party's sets

module _ (p : Hardware) (o : Own) (kernel : IsKernel p o) where
  -- prefetch and flush leave them where the dirty lines are others', or nobody's
  prepared_others : (others : ℕ → Bool) → AreApart (own_colour o) others → (c : Caches)
      → sharing.OwnDirty (hierarchy p) others c.core
      → SameSets p o (prepared p c) c
  unfolding prepared
  prepared_others others apart c dirty s own =
      flush_others p o kernel others apart (prefetch_part (hierarchy p) (region p) c).caches
      (prefetch_dirties p o kernel others apart c dirty) s own
      ∙ prefetch_others p o kernel others apart c dirty s own

  -- and so they do after another's leave
  left_others : (other : Own) (c : Caches) → AreParties p o other → OwnDirty p other c
      → SameSets p o (prepared p (leave_part (hierarchy p) false p.costs (layout p other) c).caches) c
  left_others other c parties dirty s own =
      let its = parties.others_kernel in
      let still = own_dirties p other its false (leave p.costs (layout p other)) c (leave_may p other its (region p)) dirty in
      prepared_others (own_colour other) parties.apart (leave_part (hierarchy p) false p.costs (layout p other) c).caches still s own
      ∙ others_leave p o other c parties dirty s own

  -- after its own they are as after that of it alone
  left_own : IsHardware p → (c : Caches) (a : Local) → c.core ≡ a.caches.core → OwnDirty p o c
      → SameSets p o c a.caches
      → SameSets p o (prepared p (leave_part (hierarchy p) false p.costs (layout p o) c).caches) (alone_out p o a).caches
  unfolding prepared alone_out
  left_own is c a core dirty same s own =
      let left = own_lines p o kernel (leave p.costs (layout p o)) c a.caches (leave_may p o kernel []) core dirty same in
      settled p o (leave_part (hierarchy p) false p.costs (layout p o) c).caches is kernel s own
      ∙ flush_beside p o kernel c.l2 _ _ left.caches s own

  -- where it enters
  pub entered : (c k : Caches) → SameSets p o (prepared p c) k
      → BesideTouched (hierarchy p) (own_colour o) [] (prepared p c).l2 (enter_part (hierarchy p) false (layout p o) (prepared p c))
      (enter_part (hierarchy p) true (layout p o) (record k { core = fresh_core (hierarchy p) }))
  unfolding enter_part prepared touched on_core flushed pass_on
  entered c k same =
      own_lines p o kernel (enter (layout p o)) (prepared p c) (record k { core = fresh_core (hierarchy p) }) (enter_may p o kernel []) refl
      (prepared_dirty p (own_colour o) c) same

module _ (i : Image) (r : Separated i) (d : ℕ) (is : IsDomain i d) where
  -- each dirty line is of who leaves
  abbrev LeftDirty : Option ℕ → Caches → Type 0
  LeftDirty out c = sharing.OwnDirty (hierarchy i.all.hardware) (left_colours i out) c.core

  -- the caches after the leave of who was running, prefetch and flush
  unfoldable pub left : Option ℕ → Caches → Caches
  left out c = prepared i.all.hardware (leave_by (guarded i) i out c).caches

  -- another leaves, or nobody
  pub others_left : (k : ℕ) (c : Caches) → outgoing i.all.schedule k ≢ Some d
      → LeftDirty (outgoing i.all.schedule k) c
      → SameSets i.all.hardware (own_of i d) (left (outgoing i.all.schedule k) c) c
  unfolding left leave_by guarded
  others_left zero c other dirty =
      prepared_others i.all.hardware (own_of i d) (kernel_of i r d is) (λ _. false) (λ colour mine. refl) c
      dirty
  others_left (suc k) c other dirty =
      let e = (entry_of_slot i.all.schedule k).domain in
      left_others i.all.hardware (own_of i d) (kernel_of i r d is) (own_of i e) c
      (parties_of i r d e is (r.named k) (λ q. other (ap Some (sym q)))) dirty

  -- the domain itself
  pub own_left : (k : ℕ) (c : Caches) (a : Local) → outgoing i.all.schedule k ≡ Some d
      → c.core ≡ a.caches.core → LeftDirty (outgoing i.all.schedule k) c
      → SameSets i.all.hardware (own_of i d) c a.caches
      → SameSets i.all.hardware (own_of i d) (left (outgoing i.all.schedule k) c) (alone_out i.all.hardware (own_of i d) a).caches
  unfolding left leave_by guarded
  own_left k c a out core dirty same =
      subst (λ (x : Option ℕ). LeftDirty x c
      → SameSets i.all.hardware (own_of i d) (left x c) (alone_out i.all.hardware (own_of i d) a).caches)
      (sym out)
      (λ its. left_own i.all.hardware (own_of i d) (kernel_of i r d is) r.hardware c a core its same) dirty

  work_is : (out : Option ℕ) (n : ℕ) (c : Caches)
      → (switch_work i out n c).caches ≡ (enter_part (hierarchy i.all.hardware) false (layout i.all.hardware (own_of i n)) (left out c)).caches
  unfolding switch_work_by prefetch_by flush_by guarded and_then left prepared
  work_is out n c = refl

  -- another enters
  others_entered : (n : ℕ) (out : Option ℕ) (c : Caches) → IsDomain i n → n ≢ d
      → SameSets i.all.hardware (own_of i d) (switch_work i out n c).caches (left out c)
  unfolding left
  others_entered n out c named other s own =
      let p = i.all.hardware in
      ap (λ (k : Caches). set_at (hierarchy p).l2.ways k.l2 s) (work_is out n c)
      ∙ others_enter p (own_of i d) (own_of i n) (left out c) (parties_of i r d n is named (λ q. other (sym q)))
      (prepared_dirty p (own_colour (own_of i n)) (leave_by (guarded i) i out c).caches) s own

module _ (i : Image) (r : Separated i) (h k d : ℕ) (is : IsDomain i d) (w : World) (a : Local) where
  -- the boxes after the leave
  abbrev boxes_left : Boxes
  boxes_left = left_boxes (outgoing i.all.schedule k) w.storage.boxes

  -- into another, after whatever left the caches and boxes so
  switch_away : (entry_of_slot i.all.schedule k).domain ≢ d → (dom_of w d ≡ a.dom)
      → SameFrames i.all.hardware (own_of i d) w.storage.mem a.storage.mem
      → SameSide (own_of i d) boxes_left a.storage.boxes
      → SameSets i.all.hardware (own_of i d) (left i r d is (outgoing i.all.schedule k) (caches_of h w)) a.caches
      → Apiece i.all.hardware (own_of i d) (part_of h d (switch_on (guarded i) i h k w)) a
  unfolding switch_on guarded with_hart
  switch_away other dom frames side same =
      let es = i.all.schedule in
      let past = others_entered i r d is (entry_of_slot es k).domain (outgoing es k) (caches_of h w) (r.named k) other in
      record {
        dom = dom;
        part = record {
          frames = frames;
          side =
              others_enter_boxes d (own_of i d).number (r.numbered d is) (entry_of_slot es k).domain boxes_left other
              ∙ side;
          sets = λ s own. past s own ∙ same s own;
        };
      }

  -- of its side nothing, where another leaves
  left_by_others : outgoing i.all.schedule k ≢ Some d → Apiece i.all.hardware (own_of i d) (part_of h d w) a
      → SameSide (own_of i d) boxes_left a.storage.boxes
  left_by_others out near =
      others_leave_boxes d (own_of i d).number (r.numbered d is) (outgoing i.all.schedule k) w.storage.boxes out
      ∙ near.part.side

  -- a switch between others
  pub switch_past : InTime i h k w → outgoing i.all.schedule k ≢ Some d
      → (entry_of_slot i.all.schedule k).domain ≢ d
      → Apiece i.all.hardware (own_of i d) (part_of h d w) a
      → Apiece i.all.hardware (own_of i d) (part_of h d (switch_on (guarded i) i h k w)) a
  switch_past time out other near =
      switch_away other near.dom near.part.frames (left_by_others out near)
      (λ s own. others_left i r d is k (caches_of h w) out time.dirty s own ∙ near.part.sets s own)

  -- into it, after whatever left the caches and boxes so
  switch_to : InTime i h k w → (entry_of_slot i.all.schedule k).domain ≡ d → (dom_of w d ≡ a.dom)
      → SameFrames i.all.hardware (own_of i d) w.storage.mem a.storage.mem
      → SameSide (own_of i d) boxes_left a.storage.boxes
      → SameSets i.all.hardware (own_of i d) (left i r d is (outgoing i.all.schedule k) (caches_of h w)) a.caches
      → Within i.all.hardware (own_of i d) (part_of h d (switch_on (guarded i) i h k w))
      (alone_enter i.all (own_of i d) k (arrival d boxes_left) a)
  unfolding switch_on guarded alone_enter left with_hart
  switch_to time e dom frames side same =
      let p = i.all.hardware in
      let out = outgoing i.all.schedule k in
      let n = entered p (own_of i d) (kernel_of i r d is) (leave_by (guarded i) i out (caches_of h w)).caches a.caches same in
      let work : (switch_work i out (entry_of_slot i.all.schedule k).domain (caches_of h w)).caches ≡ (enter_part (hierarchy p) false (layout p (own_of i d)) (left i r d is out (caches_of h w))).caches =
      ap (λ (x : ℕ). (switch_work i out x (caches_of h w)).caches) e ∙ work_is i r d is out d (caches_of h w) in
      record {
        dom = dom;
        part = record {
          frames = frames;
          side =
              own_enters_boxes d (own_of i d).number (r.numbered d is) (entry_of_slot i.all.schedule k).domain boxes_left
              a.storage.boxes e side;
          sets =
              λ s own. ap (λ (c : Caches). set_at (hierarchy p).l2.ways c.l2 s) work ∙ n.caches.l2.same s own;
        };
        core = ap (λ (c : Caches). c.core) (caches-with h (with_mail out (entry_of_slot i.all.schedule k).domain w) _ _ ∙ work) ∙ n.caches.core;
        clock = switch_on_start i r h k w (r.padded k) time;
      }

  pub switch_in : InTime i h k w → outgoing i.all.schedule k ≢ Some d
      → (entry_of_slot i.all.schedule k).domain ≡ d
      → Apiece i.all.hardware (own_of i d) (part_of h d w) a
      → Within i.all.hardware (own_of i d) (part_of h d (switch_on (guarded i) i h k w))
      (alone_enter i.all (own_of i d) k (arrival d boxes_left) a)
  switch_in time out e near =
      switch_to time e near.dom near.part.frames (left_by_others out near)
      (λ s own. others_left i r d is k (caches_of h w) out time.dirty s own ∙ near.part.sets s own)

-- from it to another
pub switch_out : (i : Image) (r : Separated i) (h k d : ℕ) (is : IsDomain i d) (w : World) (a : Local)
    → InTime i h k w
    → outgoing i.all.schedule k ≡ Some d → (entry_of_slot i.all.schedule k).domain ≢ d
    → Within i.all.hardware (own_of i d) (part_of h d w) a
    → Apiece i.all.hardware (own_of i d) (part_of h d (switch_on (guarded i) i h k w)) (alone_out i.all.hardware (own_of i d) a)
unfolding alone_out
switch_out i r h k d is w a time out other near =
    switch_away i r h k d is w (alone_out i.all.hardware (own_of i d) a) other near.dom near.part.frames
    (own_leave_boxes d (own_of i d).number (r.numbered d is) (outgoing i.all.schedule k) w.storage.boxes a.storage.boxes out near.part.side)
    (own_left i r d is k (caches_of h w) a out near.core time.dirty near.part.sets)

-- from it to itself
pub switch_both : (i : Image) (r : Separated i) (h k d : ℕ) (is : IsDomain i d) (w : World) (a : Local)
    → InTime i h k w
    → outgoing i.all.schedule k ≡ Some d → (entry_of_slot i.all.schedule k).domain ≡ d
    → Within i.all.hardware (own_of i d) (part_of h d w) a
    → Within i.all.hardware (own_of i d) (part_of h d (switch_on (guarded i) i h k w))
    (alone_enter i.all (own_of i d) k (arrival d (left_boxes (outgoing i.all.schedule k) w.storage.boxes))
    (alone_out i.all.hardware (own_of i d) a))
unfolding alone_out
switch_both i r h k d is w a time out e near =
    switch_to i r h k d is w (alone_out i.all.hardware (own_of i d) a) time e near.dom near.part.frames
    (own_leave_boxes d (own_of i d).number (r.numbered d is) (outgoing i.all.schedule k) w.storage.boxes a.storage.boxes out near.part.side)
    (own_left i r d is k (caches_of h w) a out near.core time.dirty near.part.sets)
