-- How a capability is written.
use Rattle.std.specs.Prelude.{◌≡◌, ℕ, ◌↔◌, List, ◌++◌, codes, decimal, Some}
use Rattle.domain_check.specs.declared.capabilities.InitialCap.{InitialCap}
use Rattle.domain_check.specs.declared.capabilities.InitialCap.TheVariants.{None as NoCap, Page, Irq}
use Rattle.domain_check.specs.CapTexts.{cap_in, IsShort}

abbrev pub cap_text : InitialCap → List ℕ
cap_text NoCap = codes "none"
cap_text (Page n) = codes "page " ++ decimal n
cap_text (Irq n) = codes "irq " ++ decimal n

-- a text names what is written so, in at most ten digits, and nothing else
abbrev pub CapTextLaw : Type 0
CapTextLaw = (s : List ℕ) (c : InitialCap) → (cap_in s ≡ Some c) ↔ ((s ≡ cap_text c) × IsShort c)
