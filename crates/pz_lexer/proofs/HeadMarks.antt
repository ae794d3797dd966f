-- Tokens marked from the last to the first.
use Rattle.std.proofs.Common.{◌≡◌, ℕ, ◌+◌, ◌≤◌, ◌<◌, List, [], ◌∷◌, length, take, drop, get_or, refl, sym, ◌∙◌, ap, ap₂, subst, arith, set, length-set}
use Rattle.std.proofs.lemmas.List.{drop_more, take-set, take-take, drop-set, get_or-take}
use Rattle.pz_lexer.specs.declared.heads.Following.{Following}
use Rattle.pz_lexer.specs.declared.kept.Piece.{Piece as Kept}
use Rattle.pz_lexer.specs.devices.Marking.{roles_of, marked_before, role_before, with_heads, Follows, Marks}

-- from this place on the tokens are marked, and before it they are as they were
pub record MarkedFrom (left : ℕ) (old new : List Kept) (following : Following) : Type 0 where
  pub within : left ≤ length old
  pub same_len : length new ≡ length old
  pub before : take left new ≡ take left old
  pub after : drop left new ≡ with_heads (drop left old)
  pub follows : Follows following (roles_of (drop left old))

-- one piece more
pub marked_more : (left i : ℕ) (old new : List Kept) (f g : Following) (t u : Kept) → MarkedFrom left old new f → left ≡ i + 1 → t ≡ get_or new i t → Marks f g t u → MarkedFrom i old (set new i u) g
marked_more left i old new f g t u is step at marks = record {
  within = omega (arith, is.within);
  same_len = length-set new i u ∙ is.same_len;
  before = take-set new i u ∙ front;
  after = drop-set new i u inside ∙ ap₂ (λ x l. x ∷ l) (marks (roles_of others) follows).0 rest ∙ sym (ap with_heads whole);
  follows = subst (Follows g) (sym (ap roles_of whole)) (marks (roles_of others) follows).1;
}
  where
    inside : i < length new
    inside = omega (arith, is.within, is.same_len)

    others : List Kept
    others = drop (i + 1) old

    both : take (i + 1) new ≡ take (i + 1) old
    both = subst (λ n. take n new ≡ take n old) step is.before

    shorter : (pieces : List Kept) → take i (take (i + 1) pieces) ≡ take i pieces
    shorter pieces = take-take i (i + 1) pieces (omega arith)

    front : take i new ≡ take i old
    front = sym (shorter new) ∙ ap (take i) both ∙ shorter old

    same : t ≡ get_or old i t
    same = at ∙ sym (get_or-take (i + 1) new i t (omega arith)) ∙ ap (λ l. get_or l i t) both ∙ get_or-take (i + 1) old i t (omega arith)

    whole : drop i old ≡ t ∷ others
    whole = drop_more old i t (omega (arith, is.within)) ∙ ap (λ x. x ∷ others) (sym same)

    rest : drop (i + 1) new ≡ with_heads others
    rest = subst (λ n. drop n new ≡ with_heads (drop n old)) step is.after

    follows : Follows f (roles_of others)
    follows = subst (λ n. Follows f (roles_of (drop n old))) step is.follows

pub marked_all : (old new : List Kept) (f : Following) (left : ℕ) → left ≡ 0 → MarkedFrom left old new f → new ≡ with_heads old
marked_all old new f left none is = ap (λ n. drop n new) (sym none) ∙ is.after ∙ ap (λ n. with_heads (drop n old)) none
