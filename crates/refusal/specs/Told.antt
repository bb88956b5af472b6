-- What a refusal prints. A reader must believe these words: a person who reads a host's error knows the refusal by nothing else.
use Rattle.std.specs.Prelude.{ℕ, List, ◌++◌, codes, decimal}
use Rattle.refusal.specs.Numbers.{number_of}
use Rattle.refusal.specs.declared.Refusal.{Refusal}

abbrev pub refusal_words : Refusal → List ℕ
refusal_words refusal = codes "refused, number " ++ decimal (number_of refusal)
