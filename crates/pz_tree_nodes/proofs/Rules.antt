-- What each call does, from what those that it makes do.
use Rattle.std.proofs.Common.{◌≡◌, ◌<◌, ◌≤◌, ℕ, zero, suc, ◌+◌, List, [], ◌∷◌, ◌++◌, length, get_or, set, drop, Option, Some, None, Result, IfOk, refl, ap, sym, ◌∙◌, subst, arith}
use Rattle.std.proofs.lemmas.Grind.{common_steps}
use Rattle.std.proofs.lemmas.Result.{IfOk-weaker}
use Rattle.std.proofs.lemmas.List.{get_or-drop, drop-drop, drop-set-lt, drop_more}
use denote.Param.Weighed.{most, at_most}
use Rattle.pz_nodes_shapes.specs.Rose.{node, none, gone, more, Map, has_any}
use Rattle.pz_nodes_shapes.specs.Change.{no_key, BecomesOption}
use Rattle.pz_nodes_shapes.proofs.Frames.{change_then}
use Rattle.pz_rules.specs.declared.term.Term as code
use Rattle.pz_rules.specs.Terms.{Term, Terms, no_terms, and}
use Rattle.pz_rules.specs.View.{term_view, terms_view}
use Rattle.pz_tree_nodes.specs.declared.kept.Kept.{Kept}
use Rattle.pz_tree_nodes.specs.declared.node.Head.{Head}
use Rattle.pz_tree_nodes.specs.declared.node.What.{What}
use Rattle.pz_tree_nodes.specs.Keeping.{IsKept, AreKept, kept_none, kept_done, joined}
use Rattle.pz_tree_nodes.specs.View.{Plant, head_view, term_in_option}
use Rattle.pz_tree_nodes.specs.Tended.{TendedOption}
use Rattle.pz_tree_nodes.specs.declared.children.PlantedPart.{PlantedPart}
use Rattle.pz_tree_nodes.specs.Planting.{EndsInTime, EndInTime, nodes_of, nodes_of_all, root_of, size_of, Planted}
use Rattle.pz_tree_nodes.specs.devices.Parts.{ArePlanted, PartRule, TwoRule, AllRule, PlantsOn, Forms, IsPut, Puts}
use Rattle.pz_tree_nodes.proofs.Made.{same, apart, stays, change_beside, put_over}
use Rattle.pz_tree_nodes.proofs.Tending.{node_means, node_tended}
use Rattle.pz_tree_nodes.proofs.Joins.{joined_associative, joined_none, none_joined}
use Rattle.pz_tree_nodes.proofs.Keeping.{done_kept, none_kept, more_kept}

-- ------------------------------------------------------------ parts side by side

pub no_parts : (m : Map What) (c : ℕ) → ArePlanted m m c no_terms []
no_parts m c = record { plants = none; under = refl; stand = tt; change = same m; tended = λ f. tt; means = refl; size = refl }

-- one more, before those that were planted after it
pub beside : (m m1 n : Map What) (c : ℕ) (t : Term) (ts : Terms) (key : Option ℕ) (keys : List (Option ℕ)) → Planted m m1 c t key → ArePlanted m1 n c ts keys → ArePlanted m n c (and t ts) (key ∷ keys)
beside m m1 n c t ts key keys p q = by p.plant p.under p.made p.tended p.means p.size
  where
    by : (x : Option Plant) → root_of x ≡ key → BecomesOption m m1 no_key x → ((f : ℕ) → TendedOption f c x) → t ≡ term_in_option c x → size_of x ≡ nodes_of t → ArePlanted m n c (and t ts) (key ∷ keys)
    by None r b d e z = record {
      plants = gone q.plants;
      under = λ i. r i ∷ q.under i;
      stand = q.stand;
      change = change_then m m1 n no_key no_key (has_any q.plants) b q.change;
      tended = q.tended;
      means = λ i. and (e i) (q.means i);
      size = omega (arith, z, q.size);
    }
    by (Some s) r b d e z = record {
      plants = more s q.plants;
      under = λ i. r i ∷ q.under i;
      stand = (apart m m1 n s q.plants b q.change, stays m m1 n s q.plants b q.change, q.stand);
      change = change_beside m m1 n s q.plants b q.change;
      tended = λ f. (d f, q.tended f);
      means = λ i. and (e i) (q.means i);
      size = omega (arith, z, q.size);
    }

pub alone : (m n : Map What) (c : ℕ) (t : Term) (key : Option ℕ) → Planted m n c t key → ArePlanted m n c (and t no_terms) (key ∷ [])
alone m n c t key p = beside m n n c t no_terms key [] p (no_parts n c)

-- ------------------------------------------------------------ a node is put over them

pub puts : (n p : Map What) (h : Head) (keys : List (Option ℕ)) (kept : Kept) (mid new k : ℕ) → IsPut n p k (record { what = record { head = h; kept = kept }; kids = keys }) → new ≡ mid + 1 → Puts n p h keys kept mid new (Some k) kept
puts n p h keys kept mid new k put tick m c ts t old q spent forms is =
    let x : What = record { head = h; kept = kept } in
    record {
      planted = record {
        plant = Some (node k x q.plants);
        under = refl;
        made = put_over m n p k x q.plants q.stand q.change put.vacant (put.there ∙ ap (λ z. Some (record { what = x; kids = z })) (sym q.under)) put.others;
        tended = node_tended c k x ts t q.plants forms q.means is q.tended;
        means = node_means c k x ts t q.plants forms q.means;
        size = ap suc q.size ∙ sym forms.size;
      };
      kept = is;
      ticks = omega (arith, tick, spent, forms.size);
    }

-- what the call that puts it answers, of a term that is seen as this
pub finished : {E : Type 0} (r : Result PlantedPart E) (m n p : Map What) (c old mid new : ℕ) (h : Head) (keys : List (Option ℕ)) (kept : Kept) (ts : Terms) (t u : Term)
    → IfOk r (λ x. Puts n p h keys kept mid new x.key x.kept)
    → u ≡ t
    → (EndsInTime c t → ArePlanted m n c ts keys × (mid ≡ old + nodes_of_all ts) × Forms c (head_view h) ts t × IsKept c t kept)
    → IfOk r (λ x. PartRule m p c u x.key x.kept old new)
finished r m n p c old mid new h keys kept ts t u put is by =
    IfOk-weaker r (λ x. Puts n p h keys kept mid new x.key x.kept) (λ x. PartRule m p c u x.key x.kept old new)
    (λ x q. subst (λ z. PartRule m p c z x.key x.kept old new) (sym is) (λ w. let b = by w in q m c ts t old b.0 b.1 b.2 b.3)) put

pub none_under : {E : Type 0} (r : Result PlantedPart E) (n p : Map What) (c old new : ℕ) (h : Head) (keys : List (Option ℕ)) (kept : Kept) (t u : Term)
    → IfOk r (λ x. Puts n p h keys kept old new x.key x.kept) → keys ≡ [] → u ≡ t
    → (EndsInTime c t → Forms c (head_view h) no_terms t × IsKept c t kept)
    → IfOk r (λ x. PartRule n p c u x.key x.kept old new)
none_under r n p c old new h keys kept t u put e is by =
    finished r n n p c old old new h keys kept no_terms t u put is (λ w. let b = by w in (subst (ArePlanted n n c no_terms) (sym e) (no_parts n c), omega arith, b.0, b.1))

pub one_under : {E : Type 0} (r : Result PlantedPart E) (m n p : Map What) (c old mid new : ℕ) (h : Head) (keys : List (Option ℕ)) (kept k : Kept) (key : Option ℕ) (t whole u : Term)
    → IfOk r (λ x. Puts n p h keys kept mid new x.key x.kept) → PartRule m n c t key k old mid → keys ≡ key ∷ [] → u ≡ whole
    → (EndsInTime c whole → EndsInTime c t) → Forms c (head_view h) (and t no_terms) whole → (IsKept c t k → IsKept c whole kept)
    → IfOk r (λ x. PartRule m p c u x.key x.kept old new)
one_under r m n p c old mid new h keys kept k key t whole u put rule e is ends forms keeps =
    finished r m n p c old mid new h keys kept (and t no_terms) whole u put is (λ w.
    let x = rule (ends w) in
    (subst (ArePlanted m n c (and t no_terms)) (sym e) (alone m n c t key x.planted), omega (arith, x.ticks), forms, keeps x.kept))

pub two_under : {E : Type 0} (r : Result PlantedPart E) (m n p : Map What) (c old mid new : ℕ) (h : Head) (keys : List (Option ℕ)) (kept k l : Kept) (t v whole u : Term)
    → IfOk r (λ x. Puts n p h keys kept mid new x.key x.kept) → TwoRule m n c t v keys k l old mid → u ≡ whole
    → (EndsInTime c whole → EndsInTime c t × EndsInTime c v) → Forms c (head_view h) (and t (and v no_terms)) whole → (IsKept c t k → IsKept c v l → IsKept c whole kept)
    → IfOk r (λ x. PartRule m p c u x.key x.kept old new)
two_under r m n p c old mid new h keys kept k l t v whole u put rule is ends forms keeps =
    finished r m n p c old mid new h keys kept (and t (and v no_terms)) whole u put is (λ w.
    let b = ends w in
    let x = rule b.0 b.1 in
    (x.planted, x.ticks, forms, keeps x.first x.second))

pub all_under : {E : Type 0} (r : Result PlantedPart E) (m n p : Map What) (c old mid new : ℕ) (h : Head) (keys : List (Option ℕ)) (kept k : Kept) (ts : Terms) (whole u : Term)
    → IfOk r (λ x. Puts n p h keys kept mid new x.key x.kept) → AllRule m n c ts keys k old mid → u ≡ whole
    → (EndsInTime c whole → EndInTime c ts) → Forms c (head_view h) ts whole → (AreKept c ts k → IsKept c whole kept)
    → IfOk r (λ x. PartRule m p c u x.key x.kept old new)
all_under r m n p c old mid new h keys kept k ts whole u put rule is ends forms keeps =
    finished r m n p c old mid new h keys kept ts whole u put is (λ w.
    let x = rule (ends w) in
    (x.planted, x.ticks, forms, keeps x.kept))

pub done_planted : (m : Map What) (c old : ℕ) (u : Term) → u ≡ Rattle.pz_rules.specs.Terms.done → PartRule m m c u None kept_done old old
done_planted m c old u is = subst (λ z. PartRule m m c z None kept_done old old) (sym is) (λ w. record {
  planted = record { plant = None; under = refl; made = same m; tended = λ f. tt; means = refl; size = refl };
  kept = done_kept c;
  ticks = omega arith;
})

pub two_planted : (m n p : Map What) (c old mid new : ℕ) (t u : Term) (key other : Option ℕ) (keys : List (Option ℕ)) (k l : Kept) → keys ≡ key ∷ other ∷ [] → PartRule m n c t key k old mid → PartRule n p c u other l mid new
    → TwoRule m p c t u keys k l old new
two_planted m n p c old mid new t u key other keys k l e a b v w =
    let x = a v in
    let y = b w in
    record {
      planted = subst (ArePlanted m p c (and t (and u no_terms))) (sym e) (beside m n p c t (and u no_terms) key (other ∷ []) x.planted (alone n p c u other y.planted));
      first = x.kept;
      second = y.kept;
      ticks = omega (arith, x.ticks, y.ticks);
    }

-- ------------------------------------------------------------ the loop

pub one_beside : (m m1 n : Map What) (c old mid new : ℕ) (t : Term) (ts : Terms) (key : Option ℕ) (keys : List (Option ℕ)) (k l : Kept) → PartRule m m1 c t key k old mid → AllRule m1 n c ts keys l mid new → AllRule m n c (and t ts) (key ∷ keys) (joined k l) old new
one_beside m m1 n c old mid new t ts key keys k l a b w =
    let x = a w.0 in
    let y = b w.1 in
    record {
      planted = beside m m1 n c t ts key keys x.planted y.planted;
      kept = more_kept c t k x.kept ts l y.kept;
      ticks = omega (arith, x.ticks, y.ticks);
    }

pub plants_at_first : (m : Map What) (c old : ℕ) (parts : List code.Term) → PlantsOn m m c parts 0 [] kept_none old old
plants_at_first m c old parts n others k new rest = subst (λ z. AllRule m n c (terms_view parts) others z old new) (sym (none_joined k)) rest

-- a list of which the places from i on are as they were
module _ {A : Type 0} (all now : List A) (i : ℕ) (still : drop i now ≡ drop i all) where
  still_there : (d : A) → get_or now i d ≡ get_or all i d
  still_there d =
      let n : i ≡ i + 0 = omega arith in
      ap (λ (k : ℕ). get_or now k d) n ∙ sym (get_or-drop i now 0 d) ∙ ap (λ (l : List A). get_or l 0 d) still ∙ get_or-drop i all 0 d ∙ ap (λ (k : ℕ). get_or all k d) (sym n)

  pub still_lower : (weight : A → ℕ) (x : A) → i < length all → x ≡ get_or now i x → weight x ≤ most weight all
  still_lower weight x within is = subst (λ (y : A). weight y ≤ most weight all) (sym (is ∙ still_there x)) (at_most weight all i x within)

  pub later_still : (one : List A) (x : A) → one ≡ set now i x → drop (i + 1) one ≡ drop (i + 1) all
  later_still one x first =
      let above : i < i + 1 = omega arith in
      ap (λ (l : List A). drop (i + 1) l) first ∙ drop-set-lt (i + 1) now i x above
      ∙ sym (drop-drop 1 i now) ∙ ap (λ (l : List A). drop 1 l) still ∙ drop-drop 1 i all

  pub this_one : (x : A) → i < length all → x ≡ get_or now i x → drop i all ≡ x ∷ drop (i + 1) all
  this_one x within is = drop_more all i x within ∙ ap (λ (y : A). y ∷ drop (i + 1) all) (sym (is ∙ still_there x))

append_one : {A : Type 0} (xs : List A) (x : A) (ys : List A) → xs ++ (x ∷ ys) ≡ (xs ++ x ∷ []) ++ ys
append_one [] x ys = refl
append_one (z ∷ xs) x ys = ap (λ l. z ∷ l) (append_one xs x ys)

append_none : {A : Type 0} (xs : List A) → xs ++ [] ≡ xs
append_none [] = refl
append_none (x ∷ xs) = ap (λ l. x ∷ l) (append_none xs)

pub plants_next : (m0 m m1 : Map What) (c : ℕ) (parts : List code.Term) (i : ℕ) (part : code.Term) (keys next : List (Option ℕ)) (key : Option ℕ) (kept k after : Kept) (old now mid : ℕ)
    → drop i parts ≡ part ∷ drop (i + 1) parts → next ≡ keys ++ key ∷ [] → after ≡ joined kept k
    → PartRule m m1 c (term_view part) key k now mid → PlantsOn m0 m c parts i keys kept old now → PlantsOn m0 m1 c parts (i + 1) next after old mid
plants_next m0 m m1 c parts i part keys next key kept k after old now mid e f g rule on n others l new rest =
    let r = one_beside m m1 n c now mid new (term_view part) (terms_view (drop (i + 1) parts)) key others k l rule rest in
    let whole = on n (key ∷ others) (joined k l) new (subst (λ z. AllRule m n c (terms_view z) (key ∷ others) (joined k l) now new) (sym e) r) in
    subst (λ z. AllRule m0 n c (terms_view parts) z (joined after l) old new) (append_one keys key others ∙ ap (λ z. z ++ others) (sym f))
    (subst (λ z. AllRule m0 n c (terms_view parts) (keys ++ (key ∷ others)) z old new) (sym (joined_associative kept k l) ∙ ap (λ z. joined z l) (sym g)) whole)

nothing_left : {A : Type 0} (xs : List A) (i : ℕ) → length xs ≤ i → drop i xs ≡ []
nothing_left [] i h = grind (arith, common_steps)
nothing_left (x ∷ xs) zero h = absurd (omega arith)
nothing_left (x ∷ xs) (suc i) h = nothing_left xs i (omega arith)

pub all_planted : (m0 m : Map What) (c : ℕ) (parts : List code.Term) (i : ℕ) (keys kids : List (Option ℕ)) (kept : Kept) (old now : ℕ) → length parts ≤ i → kids ≡ keys → PlantsOn m0 m c parts i keys kept old now → AllRule m0 m c (terms_view parts) kids kept old now
all_planted m0 m c parts i keys kids kept old now ended e on =
    let r : AllRule m m c no_terms [] kept_none now now = λ w. record { planted = no_parts m c; kept = none_kept c; ticks = omega arith } in
    let whole = on m [] kept_none now (subst (λ z. AllRule m m c (terms_view z) [] kept_none now now) (sym (nothing_left parts i ended)) r) in
    subst (λ z. AllRule m0 m c (terms_view parts) z kept old now) (append_none keys ∙ sym e)
    (subst (λ z. AllRule m0 m c (terms_view parts) (keys ++ []) z old now) (joined_none kept) whole)
