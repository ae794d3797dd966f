-- The names of a group, beside the loop that reads them.
use Rattle.std.proofs.Common.{◌≡◌, ℕ, suc, List, [], ◌∷◌, ◌++◌, length, Ok, Err, refl, ap}
use Rattle.pz_syntax.specs.declared.names.Id.{Id}
use Rattle.pz_parser_cursor.specs.declared.ahead.Next.{Next}
use Rattle.pz_parser_cursor.specs.declared.ahead.Next.TheVariants as n
use Rattle.pz_parser_cursor.specs.declared.refusal.Refusal.TheVariants.{Syntax}
use Rattle.pz_parser_cursor.specs.devices.LookAhead.{next}
use Rattle.pz_parser_cursor.specs.devices.Input.{Tokens, after, identifier}
use Rattle.pz_parser_cursor.specs.devices.Device.{Outcome, Parser, expect}
use Rattle.pz_parser_cursor.specs.devices.Lists.{with_front}
use Rattle.pz_parser_cursor.specs.devices.Names.{names_of_group, names_by}
use Rattle.pz_parser_cursor.proofs.Loops.{with_front_more}

pub ok_is : {A : Type 0} (x y : A × Tokens) → (let o : Outcome A = Ok x in o) ≡ Ok y → x ≡ y
ok_is x y e = cc

pub names_more : (turn : ℕ) (front : List Id) (i j : Tokens) → next i ≡ n.Word → expect n.Comma (after i) ≡ Ok (tt, j)
    → with_front front (names_of_group (suc turn) i) ≡ with_front (front ++ identifier i ∷ []) (names_of_group turn j)
unfolding names_of_group
names_more turn front i j s r = rw (s, r) (with_front_more front (identifier i) (names_of_group turn j))

by_default : (x : Next) (more : Parser (List Id)) (i : Tokens) → (x ≡ n.Word → ⊥) → (x ≡ n.Head → ⊥) → names_by x more i ≡ Err (Syntax (length i))
by_default n.Word more i h g = absurd (h refl)
by_default n.Head more i h g = absurd (g refl)
by_default _ more i h g = refl

pub names_refused : (turn : ℕ) (front : List Id) (i : Tokens) → (next i ≡ n.Word → ⊥) → (next i ≡ n.Head → ⊥) → with_front front (names_of_group (suc turn) i) ≡ Err (Syntax (length i))
unfolding names_of_group
names_refused turn front i h g = ap (with_front front) (by_default (next i) (names_of_group turn) i h g)
