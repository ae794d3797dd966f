-- What is left to be counted of a system.
use Rattle.std.specs.Prelude.{◌≡◌, ℕ, zero, suc, ◌+◌, Bool, ◌||◌, nat_le, nat_lt, List, [], ◌∷◌, ◌++◌, length, Option, None}
use Rattle.std.specs.Option.{option_map_or}
use Rattle.pz_syntax.specs.declared.clusters.Instance.{Instance}
use Rattle.pz_syntax.specs.Classes.{DeclTree, ModelTree}
use Rattle.pz_classes.specs.pz_classes_rules.Numbers.{declaration}
use Rattle.pz_classes.specs.pz_classes_rules.Instances.{instances, instance_class}
use Rattle.pz_classes.specs.pz_classes_rules.SizeRules.{Totals, nothing, plus, one_of, expanded}
use Rattle.pz_env.specs.declared.room.Held.{Held}
use Rattle.pz_env.specs.declared.room.Counting.{Counting}

abbrev pub is_above : Totals → Bool
is_above t = nat_le 10000 t.processes || nat_lt 900000 t.channels

abbrev pub is_over : Counting → Bool
is_over c = nat_le 10000 c.processes || nat_lt 900000 c.channels

module _ (m : ModelTree) where
  -- one of what is declared, with all that it holds
  abbrev pub size_of : DeclTree → Totals
  size_of d = one_of m (expanded m (length m.decls)) d

  -- what an instance is
  abbrev pub held_by : ℕ → Instance → List Held
  held_by levels i = option_map_or (λ c. record { class = c; levels = levels } ∷ []) (instance_class m i.class.name) []

  abbrev pub held : ℕ → List Instance → List Held
  held levels [] = []
  held levels (i ∷ is) = held_by levels i ++ held levels is

  -- the declaration of the class, unless no level is left
  abbrev pub opened : Held → Option DeclTree
  opened h = opened_at h.levels h.class
    where
      opened_at : ℕ → ℕ → Option DeclTree
      opened_at zero c = None
      opened_at (suc levels) c = declaration m c

  -- all that is left, together
  abbrev pub sum_of : List Held → Totals
  sum_of [] = nothing
  sum_of (h ∷ hs) = plus (expanded m h.levels h.class) (sum_of hs)

  -- how many are left, with all that stands in them
  abbrev pub count_in : (ℕ → ℕ) → List Instance → ℕ
  count_in count [] = 0
  count_in count (i ∷ is) = option_map_or count (instance_class m i.class.name) 0 + count_in count is

  abbrev pub steps : ℕ → ℕ → ℕ
  steps zero c = 1
  steps (suc levels) c = suc (option_map_or (λ d. count_in (steps levels) (instances d)) (declaration m c) 0)

  abbrev pub steps_of : List Held → ℕ
  steps_of [] = 0
  steps_of (h ∷ hs) = steps h.levels h.class + steps_of hs

  -- what is counted and what is left are the whole
  pub record IsLeft (whole : Totals) (c : Counting) : Type 0 where
    pub processes : c.processes + (sum_of c.left.items).processes ≡ whole.processes
    pub channels : c.channels + (sum_of c.left.items).channels ≡ whole.channels
