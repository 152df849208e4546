-- What a call that may refuse answers: the first fault of its tests, in their order, or else its value.
use Rattle.std.specs.Prelude.{Bool, true, false, Some, None, Ok, Err, Option, Result}

-- the fault f where the test fails
abbrev pub unless : {F : Type 0} → Bool → F → Option F
unless true f = None
unless false f = Some f

-- one test and then the next
infixr 40 ◌⨾◌
abbrev pub ◌⨾◌ : {F : Type 0} → Option F → Option F → Option F
Some f ⨾ o = Some f
None ⨾ o = o

-- a fault of a lower layer, inside one of the layer above
abbrev pub within : {F G : Type 0} → (F → G) → Option F → Option G
within g (Some f) = Some (g f)
within g None = None

abbrev pub answer : {F A : Type 0} → Option F → A → Result A F
answer (Some f) a = Err f
answer None a = Ok a

-- tests, and then a call that may refuse itself
abbrev pub tested : {F A : Type 0} → Option F → Result A F → Result A F
tested (Some f) r = Err f
tested None r = r

-- no test fails
abbrev pub clear : {F : Type 0} → Option F → Bool
clear (Some f) = false
clear None = true
