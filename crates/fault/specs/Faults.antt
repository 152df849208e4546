-- The refusals by their numbers, and the refusal, the place and the layer of each fault.
use Rattle.std.specs.Prelude.{ℕ, Some, None}
use Rattle.fault.specs.declared.Refusal.{Refusal}
use Rattle.fault.specs.declared.Refusal.TheVariants as Why
use Rattle.fault.specs.declared.Place.{Place}
use Rattle.fault.specs.declared.Place.TheVariants.{Argument, Position, Record}
use Rattle.fault.specs.declared.Layer.{Layer}
use Rattle.fault.specs.declared.Layer.TheVariants as At
use Rattle.fault.specs.declared.NumberFault.{NumberFault}
use Rattle.fault.specs.declared.NumberFault.TheVariants.{NotFinite, TooLarge}
use Rattle.fault.specs.declared.RotationFault.{RotationFault}
use Rattle.fault.specs.declared.RotationFault.TheVariants.{Number, NotNormalized, NotNormalizable, UnknownOrder, TooShort}
use Rattle.fault.specs.declared.RigFault.{RigFault}
use Rattle.fault.specs.declared.RigFault.TheVariants as Rig

abbrev pub number : Refusal → ℕ
number Why.NotFinite = 1
number Why.TooLarge = 2
number Why.NotNormalized = 3
number Why.NotNormalizable = 4
number Why.NoPosition = 5
number Why.Taken = 6
number Why.Bare = 7
number Why.TooManyTurns = 8
number Why.TooDeep = 9
number Why.TooManyLoose = 10
number Why.NoneLoose = 11
number Why.UnknownOrder = 12
number Why.NotUnit = 13
number Why.BookLength = 14
number Why.BookCheck = 15
number Why.BookContent = 16
number Why.TooShort = 17

-- ---- the fault of a number

abbrev pub refusal : NumberFault → Refusal
refusal (NotFinite _) = Why.NotFinite
refusal (TooLarge _) = Why.TooLarge

abbrev pub place : NumberFault → Place
place (NotFinite argument) = Argument argument
place (TooLarge argument) = Argument argument

abbrev pub layer : NumberFault → Layer
layer _ = At.Number

-- ---- the fault of a rotation

abbrev pub rotation_refusal : RotationFault → Refusal
rotation_refusal (Number f) = refusal f
rotation_refusal (NotNormalized _) = Why.NotNormalized
rotation_refusal (NotNormalizable _) = Why.NotNormalizable
rotation_refusal (UnknownOrder _) = Why.UnknownOrder
rotation_refusal (TooShort _) = Why.TooShort

abbrev pub rotation_place : RotationFault → Place
rotation_place (Number f) = place f
rotation_place (NotNormalized argument) = Argument argument
rotation_place (NotNormalizable argument) = Argument argument
rotation_place (UnknownOrder argument) = Argument argument
rotation_place (TooShort argument) = Argument argument

abbrev pub rotation_layer : RotationFault → Layer
rotation_layer (Number f) = layer f
rotation_layer (NotNormalized _) = At.Rotation
rotation_layer (NotNormalizable _) = At.Rotation
rotation_layer (UnknownOrder _) = At.Rotation
rotation_layer (TooShort _) = At.Rotation

-- ---- the fault of a rig

abbrev pub rig_refusal : RigFault → Refusal
rig_refusal (Rig.Rotation f) = rotation_refusal f
rig_refusal (Rig.NoPosition _) = Why.NoPosition
rig_refusal (Rig.Taken _) = Why.Taken
rig_refusal (Rig.Bare _) = Why.Bare
rig_refusal (Rig.TooManyTurns _) = Why.TooManyTurns
rig_refusal (Rig.TooDeep _) = Why.TooDeep
rig_refusal (Rig.TooManyLoose _) = Why.TooManyLoose
rig_refusal (Rig.NoneLoose _) = Why.NoneLoose
rig_refusal (Rig.NotUnit _) = Why.NotUnit
rig_refusal (Rig.BookLength _) = Why.BookLength
rig_refusal (Rig.BookCheck _) = Why.BookCheck
rig_refusal (Rig.BookContent _ _) = Why.BookContent
rig_refusal (Rig.InRecord _ _ f) = rotation_refusal f

abbrev pub rig_place : RigFault → Place
rig_place (Rig.Rotation f) = rotation_place f
rig_place (Rig.NoPosition p) = Position p
rig_place (Rig.Taken p) = Position p
rig_place (Rig.Bare p) = Position p
rig_place (Rig.TooManyTurns p) = Position p
rig_place (Rig.TooDeep argument) = Argument argument
rig_place (Rig.TooManyLoose p) = Position p
rig_place (Rig.NoneLoose argument) = Argument argument
rig_place (Rig.NotUnit argument) = Argument argument
rig_place (Rig.BookLength block) = Record block None
rig_place (Rig.BookCheck block) = Record block None
rig_place (Rig.BookContent block r) = Record block r
rig_place (Rig.InRecord block r _) = Record block (Some r)

abbrev pub rig_layer : RigFault → Layer
rig_layer (Rig.Rotation f) = rotation_layer f
rig_layer (Rig.NoPosition _) = At.Rig
rig_layer (Rig.Taken _) = At.Rig
rig_layer (Rig.Bare _) = At.Rig
rig_layer (Rig.TooManyTurns _) = At.Rig
rig_layer (Rig.TooDeep _) = At.Rig
rig_layer (Rig.TooManyLoose _) = At.Rig
rig_layer (Rig.NoneLoose _) = At.Rig
rig_layer (Rig.NotUnit _) = At.Rig
rig_layer (Rig.BookLength _) = At.Rig
rig_layer (Rig.BookCheck _) = At.Rig
rig_layer (Rig.BookContent _ _) = At.Rig
rig_layer (Rig.InRecord _ _ f) = rotation_layer f
