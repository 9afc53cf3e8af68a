-- A kernel call retires no instruction, and stops no domain.
use Rattle.std.proofs.Common.{◌≡◌, ap, refl, ◌∙◌, ℕ, ◌+◌, Bool, true, false, Option, Some, None}
use Rattle.std.specs.Prelude.{nat_eq, if◌then◌else◌, ◌%◌, ◌∷◌, ◌++◌, []}
use Rattle.phys_mem.specs.Mem.{Mem, zeroed_frame}
use Rattle.page_map.specs.Tables.{map_refusal, install_refusal}
use Rattle.page_map.specs.Changes.{mapped, unmapped, installed}
use Rattle.tp_base.specs.Act.{either}
use Rattle.rv_core.specs.Registers.{register}
use Rattle.thread_set.specs.Threads.{vacant, waiter}
use Rattle.cap_table.specs.Slots.{cap_at, copied, noted, revoked, revoked_count}
use Rattle.cap_table.specs.declared.Cap.{Cap}
use Rattle.call_table.specs.declared.DomainStatus.TheVariants.{Exited}
use Rattle.call_table.specs.Domain.{Dom, placed, recorded, replied, done, refused, exited, with_caps, is_set, has_live, with_bit, signalled_by, signalled, delivered_on, turned, waiting, thread_ended, with_spawned}
use Rattle.thread_set.specs.Threads.{finished}
use Rattle.call_table.specs.Mail.{Storage, called}
use Rattle.call_table.specs.Claims.{Estate, least_free}
use Rattle.call_table.specs.Calls.{is_slot, page_in, table_in, fresh_cap, copy_refusal, with_slot, bit_value, put_byte, alloc, install, map_page, unmap, copy, drop_slot, delete, revoke, poll, waited, wait, signal, spawn, call_of, call, number_made}
use Rattle.call_table.proofs.MeaningSteps.{Gives, either_gives, bind_gives, give_gives, stop_gives, if_gives, zero_gives, map_gives, unmap_gives, install_gives, unmap_all_gives, buffer_gives, drop_gives, page_refusal_gives, table_refusal_gives, check_gives, some_gives, filled_gives, line_gives, allowed_gives, unless_gives}
use Rattle.call_table.proofs.MailCalls.{after_called}
use Rattle.domain_events.specs.Laws.{is_stopped}

-- as many have retired, and it isn't stopped
pub record Goes (d x : Dom) : Type 0 where
  pub retired : x.retired ≡ d.retired
  pub status : is_stopped x.status ≡ false

-- ---- a signal

module _ (line : ℕ) (d : Dom) where
  signal_retired : (o : Option ℕ) → (signalled_by line o d).retired ≡ d.retired
  unfolding signalled_by with_bit recorded
  signal_retired None = refl
  signal_retired (Some w) = refl

  signal_status : (o : Option ℕ) → (signalled_by line o d).status ≡ d.status
  unfolding signalled_by with_bit recorded
  signal_status None = refl
  signal_status (Some w) = refl

-- so a delivery leaves both
pub delivered_retired : (line : ℕ) (d : Dom) → (delivered_on line d).retired ≡ d.retired
unfolding delivered_on signalled
delivered_retired line d = signal_retired line (record d { delivered = d.delivered + 1 }) (waiter line d.threads)

pub delivered_status : (line : ℕ) (d : Dom) → (delivered_on line d).status ≡ d.status
unfolding delivered_on signalled
delivered_status line d = signal_status line (record d { delivered = d.delivered + 1 }) (waiter line d.threads)

module _ (d : Dom) (runs : is_stopped d.status ≡ false) where
  abbrev So : Dom → Type 0
  So x = Goes d x

  abbrev In : Dom → Mem → Type 0
  In x n = Goes d x

  itself : So d
  itself = record { retired = refl; status = runs }

  done_so : (code value : ℕ) (x : Dom) → So x → So (replied code value x)
  unfolding replied placed
  done_so code value x s = record { retired = s.retired; status = s.status }

  refused_so : (code : ℕ) → So (refused code d)
  refused_so code = done_so code 0 d itself

  emptied_so : (x : Dom) (i : ℕ) → So x → So (with_slot x i None)
  unfolding with_caps
  emptied_so x i s = record { retired = s.retired; status = s.status }

  slot_so : (value a : ℕ) (c : Option Cap) → So (done value (with_slot d a c))
  unfolding with_caps
  slot_so value a c = done_so 0 value (with_slot d a c) (record { retired = refl; status = runs })

  poll_so : (value line : ℕ) → So (done value (with_bit line false d))
  unfolding with_bit
  poll_so value line = done_so 0 value (with_bit line false d) (record { retired = refl; status = runs })

  wait_so : (t : Bool) (line : ℕ) → So (waited t line d)
  unfolding waited waiting
  wait_so true line = poll_so 1 line
  wait_so false line = record { retired = refl; status = runs }

  signal_so : (line : ℕ) → So (done 0 (signalled line d))
  unfolding signalled
  signal_so line =
      done_so 0 0 (signalled line d) (record {
        retired = signal_retired line d (waiter line d.threads);
        status = ap is_stopped (signal_status line d (waiter line d.threads)) ∙ runs;
      })

  spawn_so : (entry argument v : ℕ) → So (done v (with_spawned entry argument d))
  unfolding with_spawned
  spawn_so entry argument v = done_so 0 v (with_spawned entry argument d) (record { retired = refl; status = runs })

  yield_so : So (turned (done 0 d))
  unfolding turned
  yield_so = let s = done_so 0 0 d itself in record { retired = s.retired; status = s.status }

  ends_so : (live : Bool) → is_stopped (if live then d.status else Exited 0) ≡ false
  ends_so true = runs
  ends_so false = refl

  end_so : So (thread_ended d)
  unfolding thread_ended
  end_so = record { retired = refl; status = ends_so (has_live (finished d.threads)) }

  exit_so : (code : ℕ) → So (exited code d)
  unfolding exited
  exit_so code = record { retired = refl; status = refl }

  -- ---- each call

  module _ (e : Estate) (m : Mem) where
    put_call : (a : ℕ) → Gives So In (put_byte d a m)
    unfolding put_byte
    put_call a =
        check_gives So In m d refused_so 11 _ _ (λ _.
        give_gives So In m _
        (done_so 0 0 (record d { printed = d.printed ++ a % 256 ∷ [] }) (record { retired = refl; status = runs })))

    alloc_call : (a b : ℕ) → Gives So In (alloc e d a b m)
    unfolding alloc is_slot
    alloc_call a b =
        check_gives So In m d refused_so 2 _ _ (λ _.
        check_gives So In m d refused_so 4 _ _ (λ _.
        check_gives So In m d refused_so 5 _ _ (λ _.
        some_gives So In m d refused_so 10 (least_free e d.caps) _ (λ f is.
        zero_gives So In m f _
        (give_gives So In (zeroed_frame m f) _ (slot_so 0 a (Some (fresh_cap b f))))))))

    install_call : (a va : ℕ) → Gives So In (install e d a va m)
    unfolding install
    install_call a va =
        filled_gives So In m d refused_so a _ (λ _ x _.
        some_gives So In m d refused_so 5 (table_in x) _ (λ t _.
        check_gives So In m d refused_so 7 _ _ (λ _.
        check_gives So In m d refused_so 8 _ _ (λ _.
        table_refusal_gives So In m e.root va _
        (allowed_gives So In m d refused_so (install_refusal m e.root va) _ (λ _.
        install_gives So In m e.root va t.frame _
        (give_gives So In (installed m e.root va t.frame) _ (slot_so 0 a (noted (Some x) (Some va))))))))))

    map_call : (a va c : ℕ) → Gives So In (map_page e d a va c m)
    unfolding map_page
    map_call a va c =
        filled_gives So In m d refused_so a _ (λ _ x _.
        some_gives So In m d refused_so 5 (page_in x) _ (λ page _.
        check_gives So In m d refused_so 6 _ _ (λ _.
        check_gives So In m d refused_so 7 _ _ (λ _.
        check_gives So In m d refused_so 8 _ _ (λ _.
        page_refusal_gives So In m e.root va _
        (allowed_gives So In m d refused_so (map_refusal m e.root va) _ (λ _.
        map_gives So In m e.root va page.frame c _
        (give_gives So In (mapped m e.root va page.frame c) _ (slot_so 0 a (noted (Some x) (Some va)))))))))))

    unmap_call : (a : ℕ) → Gives So In (unmap e d a m)
    unfolding unmap
    unmap_call a =
        filled_gives So In m d refused_so a _ (λ _ x _.
        some_gives So In m d refused_so 5 (page_in x) _ (λ page _.
        some_gives So In m d refused_so 7 page.mapped _ (λ va _.
        unmap_gives So In m e.root va _
        (buffer_gives So In (unmapped m e.root va) _
        (give_gives So In (unmapped m e.root va) _ (slot_so 0 a (noted (Some x) None)))))))

    copy_call : (a to c : ℕ) → Gives So In (copy d a to c m)
    unfolding copy is_slot
    copy_call a to c =
        check_gives So In m d refused_so 2 _ _ (λ _.
        check_gives So In m d refused_so 2 _ _ (λ _.
        some_gives So In m d refused_so 3 (cap_at d.caps a) _ (λ x _.
        check_gives So In m d refused_so 4 _ _ (λ _.
        unless_gives So In m d refused_so (copy_refusal x c) _ (λ _.
        give_gives So In m _ (slot_so 0 to (copied (Some x) c)))))))

    delete_call : (a : ℕ) → Gives So In (delete e d a m)
    unfolding delete
    delete_call a =
        filled_gives So In m d refused_so a _ (λ _ x _.
        check_gives So In m d refused_so 12 _ _ (λ _.
        bind_gives So In In (drop_slot e a d) _ m (drop_gives e So So emptied_so a d m itself) (λ x n s.
        buffer_gives So In n _ (give_gives So In n _ (done_so 0 0 x s)))))

    revoke_call : (a : ℕ) → Gives So In (revoke e d a m)
    unfolding revoke with_caps
    revoke_call a =
        filled_gives So In m d refused_so a _ (λ _ x _.
        unmap_all_gives So In m e.root _ _
        (buffer_gives So In _ _
        (give_gives So In _ _ (done_so 0 (revoked_count d.caps a) (with_caps (revoked d.caps a) d) (record { retired = refl; status = runs })))))

    poll_call : (a : ℕ) → Gives So In (poll d a m)
    unfolding poll
    poll_call a =
        line_gives So In m d refused_so a _ (λ line _. give_gives So In m _ (poll_so (bit_value (is_set d line)) line))

    wait_call : (a : ℕ) → Gives So In (wait d a m)
    unfolding wait
    wait_call a = line_gives So In m d refused_so a _ (λ line _. give_gives So In m _ (wait_so (is_set d line) line))

    signal_call : (a : ℕ) → Gives So In (signal d a m)
    unfolding signal
    signal_call a = line_gives So In m d refused_so a _ (λ line _. give_gives So In m _ (signal_so line))

    spawn_call : (a b : ℕ) → Gives So In (spawn d a b m)
    unfolding spawn
    spawn_call a b =
        check_gives So In m d refused_so 7 _ _ (λ _.
        some_gives So In m d refused_so 13 (vacant d.threads) _ (λ v is. give_gives So In m _ (spawn_so a b v)))

    any_call : (number a b c : ℕ) → Gives So In (call_of e d number a b c m)
    unfolding call_of
    any_call number a b c =
        if_gives So In m (nat_eq number 0) _ _ (λ _. give_gives So In m _ (exit_so a))
        (if_gives So In m (nat_eq number 1) _ _ (λ _. put_call a)
        (if_gives So In m (nat_eq number 2) _ _ (λ _. alloc_call a b)
        (if_gives So In m (nat_eq number 3) _ _ (λ _. install_call a b)
        (if_gives So In m (nat_eq number 4) _ _ (λ _. map_call a b c)
        (if_gives So In m (nat_eq number 5) _ _ (λ _. unmap_call a)
        (if_gives So In m (nat_eq number 6) _ _ (λ _. copy_call a b c)
        (if_gives So In m (nat_eq number 7) _ _ (λ _. delete_call a)
        (if_gives So In m (nat_eq number 8) _ _ (λ _. revoke_call a)
        (if_gives So In m (nat_eq number 9) _ _ (λ _. poll_call a)
        (if_gives So In m (nat_eq number 10) _ _ (λ _. wait_call a)
        (if_gives So In m (nat_eq number 11) _ _ (λ _. signal_call a)
        (if_gives So In m (nat_eq number 12) _ _ (λ _. spawn_call a b)
        (if_gives So In m (nat_eq number 13) _ _ (λ _. give_gives So In m _ yield_so)
        (if_gives So In m (nat_eq number 14) _ _ (λ _. give_gives So In m _ end_so)
        (stop_gives So In m _ (refused_so 1))))))))))))))))

    on_memory_so : So (either (call e d m).value)
    unfolding call
    on_memory_so =
        let regs = d.threads.current.regs in
        either_gives So _ (any_call (number_made e d) (register regs 10) (register regs 11) (register regs 12))

  -- the call that is made
  pub called_so : (e : Estate) (s : Storage) → So (either (called e d s).value)
  called_so e s =
      after_called e d (λ (x : Dom) (m : Mem). So x) s refused_so (λ value. done_so 0 value d itself) (on_memory_so e s.mem)
