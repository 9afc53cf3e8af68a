-- What the laws use of an image that may run.
use Rattle.std.proofs.Common.{◌≡◌, ◌≢◌, ℕ, zero, suc, ◌%◌, ◌<◌, ◌≤◌, false, nat_lt, List, [], length, map, sym, ap, ◌∙◌, arith, mod-lt}
use Rattle.std.proofs.lemmas.Bool.{and_parts}
use Rattle.std.proofs.lemmas.List.{get_or-map, take_all}
use Rattle.std.proofs.Math.Bool.{and-false}
use Rattle.frame_colours.specs.Colours.{has, list_at}
use Rattle.mem_system.specs.Sharing.{AreApart}
use Rattle.hardware_check.specs.Hardware.{Hardware, IsHardware, colours_of}
use Rattle.image_check.specs.Own.{Own, no_own}
use Rattle.image_check.specs.Pages.{frames_in}
use Rattle.image_check.specs.Laws.{IsOwn, Runnable}
use Rattle.image_check.specs.Image.{Image, own_of}
use Rattle.world_view.specs.Frames.{own_frame, pool}
use Rattle.world_view.specs.Cost.{own_colour}
use Rattle.pad_bound.specs.Worst.{AreWithin}
use Rattle.sched_table.specs.Schedule.{entry_in, entry_of_slot, switch_entry, pad_of}
use Rattle.world_view.specs.Machine.{domains_of}
use Rattle.world_view.specs.Relations.{IsDomain, IsOwnFrame, bound, ended_own}
use Rattle.world_view.proofs.steps.Fuel.{IsTimed}

-- a frame has one colour, so where no colour is of both, no frame is
pub frames_apart : (p : Hardware) (o other : Own) (f : ℕ) → AreApart (own_colour o) (own_colour other)
    → IsOwnFrame p o f
    → own_frame p other f ≡ false
frames_apart p o other f apart own =
    let unnamed : has other.colours (f % colours_of p) ≡ false = apart (f % colours_of p) (and_parts _ _ own).1 in
    rw unnamed (and-false (nat_lt f p.frames))

pub record Separated (i : Image) : Type 0 where
  pub counted : i.all.domains ≡ length i.owns
  pub timed : IsTimed i.all.hardware
  pub named : (k : ℕ) → IsDomain i (entry_of_slot i.all.schedule k).domain
  pub enough : (d : ℕ) → IsDomain i d
      → frames_in (own_of i d).segments ≤ length (pool i.all.hardware (own_of i d))
  pub sound : (d : ℕ) → IsOwn (own_of i d)
  pub numbered : (d : ℕ) → IsDomain i d → (own_of i d).number ≡ d
  pub apart : (d e : ℕ) → IsDomain i d → IsDomain i e → d ≢ e
      → AreApart (own_colour (own_of i d)) (own_colour (own_of i e))
  pub not_kernel : (d : ℕ) → IsDomain i d → own_colour (own_of i d) 0 ≡ false
  pub padded : (k : ℕ) → bound i.all.hardware (ended_own i k) ≤ pad_of i.all.schedule k
  pub hardware : IsHardware i.all.hardware

-- what its domains have is all that is of anyone's own
pub all_domains : (i : Image) → i.all.domains ≡ length i.owns → domains_of i ≡ i.owns
all_domains i counted = take_all i.all.domains i.owns (omega (arith, counted))

module _ (i : Image) (r : Runnable i) where
  -- the colours of a domain, among those of all
  pub list_is : (d : ℕ) → IsDomain i d → list_at (map (λ o. o.colours) i.owns) d ≡ (own_of i d).colours
  list_is d is = get_or-map (λ (o : Own). o.colours) i.owns d no_own [] is

  -- a colour is named by one domain at most
  separate : (d e : ℕ) → IsDomain i d → IsDomain i e → d ≢ e
      → AreApart (own_colour (own_of i d)) (own_colour (own_of i e))
  separate d e is ie other c own =
      ap (λ (cs : List ℕ). has cs c) (sym (list_is e ie))
      ∙ r.disjoint.apart d e c other (ap (λ (cs : List ℕ). has cs c) (list_is d is) ∙ own)

  not_zero : (d : ℕ) → IsDomain i d → own_colour (own_of i d) 0 ≡ false
  not_zero d is = ap (λ (cs : List ℕ). has cs 0) (sym (list_is d is)) ∙ r.disjoint.no_zero d

  -- the entry to which a switch belongs is there
  entry_there : (k : ℕ) → switch_entry i.all.schedule k < length i.all.schedule
  entry_there zero = let some = r.schedule.some in omega (arith, some)
  entry_there (suc k) = mod-lt k r.schedule.some

  pub separated : Separated i
  separated = record {
    counted = r.counted;
    timed =
        let base = r.hardware.costs.base in
        let trap = r.hardware.costs.trap in record { base = omega (arith, base); trap = omega (arith, trap) };
    named = λ k. r.named (k % length i.all.schedule) (mod-lt k r.schedule.some);
    enough = r.pools;
    sound = r.sound;
    numbered = r.numbered;
    apart = separate;
    not_kernel = not_zero;
    padded = λ k. r.padded (switch_entry i.all.schedule k) (entry_there k);
    hardware = r.hardware;
  }

-- each call that the domain may make whose slot ended counts in its bound
pub ended_listed : (i : Image) → Separated i → (k : ℕ) → AreWithin (ended_own i k).makes (ended_own i k).calls
ended_listed i r k = (r.sound (entry_in i.all.schedule (switch_entry i.all.schedule k)).domain).listed
