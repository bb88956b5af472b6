-- Hits. A reader must believe that a hit is taken exactly where its note and its velocity are at most 127.
use Rattle.std.specs.Prelude.{Bool, ◌&&◌, nat_le}
use Rattle.statistic.specs.declared.hit.Hit.{Hit}

abbrev pub is_hit : Hit → Bool
is_hit h = nat_le h.note 127 && nat_le h.velocity 127
