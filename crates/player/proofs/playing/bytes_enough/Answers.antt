use Rattle.std.proofs.Common.{◌≡◌, ℕ, ◌<◌, Bool, true, false, leb, List, length, take, refl, ap, arith, length-take}
use Rattle.std.proofs.lemmas.List.{take_all}
use Rattle.std.proofs.lemmas.Bool.{leb-true, leb-false, lt-leb, ltb-true}
use Rattle.player.specs.Sheet.{printed}
use Rattle.player.proofs.playing.bytes_enough.Goals as goal

-- cut past the longest sheet, a sheet that is too long still is, and any other is whole
cut : (n : ℕ) → 65536 < n → (sheet : List ℕ) (fits : Bool) → leb (length sheet) 65536 ≡ fits → printed (take n sheet) ≡ printed sheet
cut n past sheet true e = ap printed (take_all n sheet (omega (arith, leb-true (length sheet) 65536 e)))
cut n past sheet false e = rw (e, lt-leb (length (take n sheet)) 65536 (omega (arith, length-take n sheet, leb-false (length sheet) 65536 e)))

past_the_longest : (n : ℕ) (sheet : List ℕ) → 65536 < n → printed (take n sheet) ≡ printed sheet
past_the_longest n sheet past = cut n past sheet (leb (length sheet) 65536) refl

pub returns : goal.returns
returns c sheet = search (past_the_longest, ltb-true)
