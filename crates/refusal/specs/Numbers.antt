-- The number of each refusal. A reader must believe this table: hosts and answer lines know a refusal by nothing else.
use Rattle.std.specs.Prelude.{ℕ}
use Rattle.refusal.specs.declared.Refusal.{Refusal}
use Rattle.refusal.specs.declared.Refusal.TheVariants.{WindowOutOfRange, LossOutOfRange, ItemNotAdmitted, TakeAtLastPosition, NoFreeSlot, NotThreeLines, UnknownKind, MalformedNumber, MalformedEvent, BufferTooShort, SheetTooLong}

abbrev pub number_of : Refusal → ℕ
number_of WindowOutOfRange = 1
number_of LossOutOfRange = 2
number_of ItemNotAdmitted = 3
number_of TakeAtLastPosition = 4
number_of NoFreeSlot = 5
number_of NotThreeLines = 7
number_of UnknownKind = 8
number_of MalformedNumber = 9
number_of MalformedEvent = 10
number_of BufferTooShort = 11
number_of SheetTooLong = 12
