-- Lists that are moved to the end of others, element by element.
use Rattle.std.proofs.Common.{◌≡◌, List, [], ◌∷◌, ◌++◌, map, Option, Some, None, sym, ap, ◌∙◌, append_assoc, append-nil}
use Rattle.std.specs.List.{filter_map, cons_option}
use Rattle.std.specs.Option.{option_to_list}

-- what stands is the first, and the others follow
pub moved_one : {X Y : Type 0} (f : X → Y) (left rest : List X) (x : X) (s t whole : List Y) → left ≡ x ∷ rest → t ≡ s ++ f x ∷ [] → s ++ map f left ≡ whole → t ++ map f rest ≡ whole
moved_one {X} {Y} f left rest x s t whole is pushed so_far =
    ap (λ (l : List Y). l ++ map f rest) pushed ∙ append_assoc s (f x ∷ []) (map f rest) ∙ ap (λ (l : List X). s ++ map f l) (sym is) ∙ so_far

pub moved_all : {X Y : Type 0} (f : X → Y) (left : List X) (s whole : List Y) → left ≡ [] → s ++ map f left ≡ whole → s ≡ whole
moved_all {X} {Y} f left s whole none so_far = sym (append-nil s) ∙ ap (λ (l : List X). s ++ map f l) (sym none) ∙ so_far

joined : {Y : Type 0} (s : List Y) (o : Option Y) (ys : List Y) → (s ++ option_to_list o) ++ ys ≡ s ++ cons_option o ys
joined {Y} s None ys = ap (λ (l : List Y). l ++ ys) (append-nil s)
joined s (Some y) ys = append_assoc s (y ∷ []) ys

-- the same where some are left out
pub kept_one : {X Y : Type 0} (h : X → Option Y) (left rest : List X) (x : X) (s t whole : List Y) → left ≡ x ∷ rest → t ≡ s ++ option_to_list (h x) → s ++ filter_map h left ≡ whole → t ++ filter_map h rest ≡ whole
kept_one {X} {Y} h left rest x s t whole is pushed so_far =
    ap (λ (l : List Y). l ++ filter_map h rest) pushed ∙ joined s (h x) (filter_map h rest) ∙ ap (λ (l : List X). s ++ filter_map h l) (sym is) ∙ so_far

pub kept_all : {X Y : Type 0} (h : X → Option Y) (left : List X) (s whole : List Y) → left ≡ [] → s ++ filter_map h left ≡ whole → s ≡ whole
kept_all {X} {Y} h left s whole none so_far = sym (append-nil s) ∙ ap (λ (l : List X). s ++ filter_map h l) (sym none) ∙ so_far
