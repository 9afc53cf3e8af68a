-- Interrupts and threads over whole runs, in the words of a program's author: which moments come, when, in whose slots, and
-- which thread goes on.
use Rattle.std.specs.Prelude.{◌≡◌, ◌≢◌, ℕ, ◌+◌, ◌<◌, ◌≤◌, ◌⊎◌, true, length, slice_get, Some}
use Rattle.irq_partition.specs.declared.Moment.{Moment}
use Rattle.irq_partition.specs.Interrupts.{IsBefore}
use Rattle.thread_set.specs.Threads.{thread_at, waits_for}
use Rattle.call_table.specs.Domain.{is_running}
use Rattle.call_table.specs.ThreadLaws.{HasTurn, Signals}
use Rattle.image_check.specs.Own.{Own}
use Rattle.world_view.specs.Kernel.{estate}
use Rattle.image_check.specs.Image.{Image, own_of}
use Rattle.image_check.specs.Laws.{Runnable}
use Rattle.world_view.specs.Machine.{clock_of, dom_of}
use Rattle.world_view.specs.Relations.{IsDomain}
use Rattle.world_view.specs.Harts.{Harts, IsInSlot, IsOutside, domain_on, owner_on, next}
use Rattle.world_view.specs.Laws.{OnEachHart, OfEachDomain}

-- how many moments have been delivered in all to the domain whose slot hart h is in
abbrev pub delivered_on : Image → ℕ → Harts → ℕ
delivered_on i h s = (dom_of s.world (domain_on i h s)).delivered

-- and after the next event of the hart
abbrev pub delivered_next : Image → ℕ → Harts → ℕ
delivered_next i h s = (dom_of (next i h s).world (domain_on i h s)).delivered

-- the moment of a number is there, and its cycle is come
abbrev pub IsDue : Own → ℕ → ℕ → Type 0
IsDue o j clock = (x : Moment) × (slice_get o.moments j ≡ Some x) × (x.at ≤ clock)

-- an event of a slot delivers no moment, or the next one, which is due: never before its cycle, none twice and none past over
abbrev pub DueLaw : Type 0
DueLaw = OnEachHart (λ i h s. IsInSlot h s
    → (delivered_next i h s ≡ delivered_on i h s)
    ⊎ ((delivered_next i h s ≡ delivered_on i h s + 1)
    × IsDue (owner_on i h s) (delivered_on i h s) (clock_of h s.world)))

-- none is lost: while a domain runs in its slot, a moment that is due is delivered by the very next event of its hart
abbrev pub PromptLaw : Type 0
PromptLaw = OnEachHart (λ i h s. IsInSlot h s
    → is_running (dom_of s.world (domain_on i h s)).status ≡ true
    → IsDue (owner_on i h s) (delivered_on i h s) (clock_of h s.world)
    → delivered_next i h s ≡ delivered_on i h s + 1)

-- those that are delivered are its first ones, and these ascend
abbrev pub FewLaw : Type 0
FewLaw = OfEachDomain (λ i d s. (dom_of s.world d).delivered ≤ length (own_of i d).moments)

abbrev pub AscendLaw : Type 0
AscendLaw = (i : Image) (d m n : ℕ) (x y : Moment) → Runnable i → IsDomain i d → m < n
    → slice_get (own_of i d).moments m ≡ Some x → slice_get (own_of i d).moments n ≡ Some y → IsBefore x y

-- nothing is delivered to a domain in another's slot, nor in a switch
abbrev pub OwnSlotsLaw : Type 0
OwnSlotsLaw = OnEachHart (λ i h s. (d : ℕ) → IsDomain i d → (d ≢ domain_on i h s) ⊎ IsOutside h s
    → (dom_of (next i h s).world d).delivered ≡ (dom_of s.world d).delivered)

-- at each moment, the current thread of each domain is ready wherever one is
abbrev pub TurnLaw : Type 0
TurnLaw = OfEachDomain (λ i d s. HasTurn (dom_of s.world d).threads)

-- the next event delivers a moment of this line
abbrev pub Delivers : Image → ℕ → Harts → ℕ → Type 0
Delivers i h s line =
    (x : Moment) × (slice_get (owner_on i h s).moments (delivered_on i h s) ≡ Some x) × (x.line ≡ line)
    × (delivered_next i h s ≡ delivered_on i h s + 1)

-- an event of a slot leaves a thread that waits for a line, but where a moment of that line is delivered, the current thread
-- calls SIGNAL of it, or the domain is ended
abbrev pub WakeLaw : Type 0
WakeLaw = OnEachHart (λ i h s. (t line : ℕ) → IsInSlot h s → t < 8 →
    let d = dom_of s.world (domain_on i h s) in
    let later = dom_of (next i h s).world (domain_on i h s) in
    waits_for line (thread_at d.threads t).state ≡ true
    → (thread_at later.threads t ≡ thread_at d.threads t)
    ⊎ (Delivers i h s line
    ⊎ (Signals (estate i.all.hardware (owner_on i h s)) d line
    ⊎ (is_running later.status ≢ true))))
