-- What waits in a box.
use Rattle.std.specs.Prelude.{◌≡◌, [], ◌∷◌, refl}
use Rattle.mail_slots.specs.Example.{holding}
use Rattle.hart_machine.specs.HartMachine.{waiting}

-- not what its sender puts in, nor what its receiver may take
pub of_box : waiting (holding (5 ∷ []) (6 ∷ 8 ∷ []) (7 ∷ [])) ≡ holding [] (6 ∷ 8 ∷ []) []
unfolding waiting
of_box = refl
