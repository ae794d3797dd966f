-- Names in a list, as things.
use Rattle.std.specs.Prelude.{ℕ, List}
use Rattle.std.specs.Borrow.{Bor}
use Rattle.pz_classes.specs.pz_syntax.declared.tokens.Pos.{Pos}
use Rattle.pz_classes.specs.pz_syntax.declared.names.Id.{Id}
use Rattle.pz_check_duplicates.specs.declared.places.Thing.{Thing}

abbrev pub id_place : Id → Pos
id_place x = x.pos

-- the name that a thing stands for
abbrev pub id_of : Thing (Bor (List ℕ)) → Id
id_of t = record { name = t.key.now; pos = t.place }
