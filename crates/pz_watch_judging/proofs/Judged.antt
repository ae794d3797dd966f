-- One point, judged by watch after watch.
use Rattle.std.proofs.Common.{◌≡◌, ◌≢◌, ⊎_elim, refl, sym, ap, subst, ◌∙◌, ℕ, suc, ◌+◌, ◌<◌, ◌≤◌, Bool, true, false, not, List, [], ◌∷◌, ◌++◌, length, set, take, Some, None, arith, append_assoc, length-append, codes}
use Rattle.std.specs.Prelude.{◌↔◌, ◌⊎◌, IsTrue, if◌then◌else◌}
use Rattle.std.proofs.lemmas.Bool.{cases_lt}
use Rattle.std.proofs.lemmas.List.{take_all, take-append-drop}
use Rattle.pz_io.specs.Outside.{SinkState}
use Rattle.pz_io.specs.declared.writing.Halt.{Halt}
use Rattle.pz_io.specs.Writing.{Wrote}
use Rattle.pz_io.specs.Laws.{NothingIsWritten, PiecesJoin, HaltsBeforeMore}
use Rattle.pz_watch.specs.declared.watch.Watch.{Watch}
use Rattle.pz_watch.specs.Points.{Point}
use Rattle.pz_watch.specs.Formulas.{holds}
use Rattle.pz_watch.specs.Files.{NamedFormula}
use Rattle.pz_watch.specs.Breaking.{broken_at, broken_lines, AreBroken}
use Rattle.pz_watch.specs.Laws.{MeaningStays}
use Rattle.pz_watch.specs.devices.Standing.{StandsForNamed, StandForEach}
use Rattle.pz_watch_judging.specs.devices.Judging.{has_some, StandHalf}
use Rattle.pz_watch_judging.proofs.Halves.{half_end, Turn, as_many, front_more}

-- ---- the watches that are broken at a point

one_more : (b : Bool) (w : NamedFormula) (both front back : List NamedFormula) → both ≡ front ++ back → (if b then both else (w ∷ both)) ≡ (if b then front else (w ∷ front)) ++ back
one_more true w both front back is = is
one_more false w both front back is = ap (λ (l : List NamedFormula). w ∷ l) is

pub at_append : (ws vs : List NamedFormula) (points : List Point) (i : ℕ) → broken_at (ws ++ vs) points i ≡ broken_at ws points i ++ broken_at vs points i
at_append [] vs points i = refl
at_append (w ∷ ws) vs points i = one_more (holds w.formula points i) w (broken_at (ws ++ vs) points i) (broken_at ws points i) (broken_at vs points i) (at_append ws vs points i)

pub lines_append : (ws vs : List NamedFormula) → broken_lines (ws ++ vs) ≡ broken_lines ws ++ broken_lines vs
lines_append [] vs = refl
lines_append (w ∷ ws) vs =
    ap (λ (more : List ℕ). codes "broken " ++ (w.name ++ (codes "\n" ++ more))) (lines_append ws vs)
    ∙ ap (λ (l : List ℕ). codes "broken " ++ l) (sym (append_assoc w.name (codes "\n" ++ broken_lines ws) (broken_lines vs)))

some_right : (ws vs : List NamedFormula) → has_some vs ≡ true → has_some (ws ++ vs) ≡ true
some_right [] vs is = is
some_right (w ∷ ws) vs is = refl

none_right : (ws vs : List NamedFormula) → has_some vs ≡ false → has_some (ws ++ vs) ≡ has_some ws
none_right [] vs is = is
none_right (w ∷ ws) vs is = refl

-- the lines of the first watches, and of the others
lines_both : (ws vs : List NamedFormula) (points : List Point) (i : ℕ) → broken_lines (broken_at (ws ++ vs) points i) ≡ broken_lines (broken_at ws points i) ++ broken_lines (broken_at vs points i)
lines_both ws vs points i = ap broken_lines (at_append ws vs points i) ∙ lines_append (broken_at ws points i) (broken_at vs points i)

some_one : (w : NamedFormula) (points : List Point) (i : ℕ) (b : Bool) → b ≡ not (holds w.formula points i) → has_some (broken_at (w ∷ []) points i) ≡ b
some_one w points i b is = by_case (holds w.formula points i) ∙ sym is
  where
    by_case : (h : Bool) → has_some (if h then [] else (w ∷ [])) ≡ not h
    by_case true = refl
    by_case false = refl

-- ---- the watches on their way

-- the first k have judged the point, which is that behind these
pub record Halfway (k : ℕ) (watches : List Watch) (ws : List NamedFormula) (points : List Point) (x : Point) (before now : SinkState) (flag : Bool) : Type 0 where
  pub half : StandHalf k watches ws points (points ++ x ∷ [])
  pub wrote : Wrote before now (broken_lines (broken_at (take k ws) (points ++ x ∷ []) (length points))) None
  pub flagged : flag ≡ has_some (broken_at (take k ws) (points ++ x ∷ []) (length points))

module _ (ws : List NamedFormula) (points : List Point) (x : Point) where
  abbrev all : List Point
  all = points ++ x ∷ []

  abbrev lines : List NamedFormula → List ℕ
  lines vs = broken_lines (broken_at vs all (length points))

  abbrev some : List NamedFormula → Bool
  some vs = has_some (broken_at vs all (length points))

  pub halfway_none : NothingIsWritten → (watches : List Watch) (before : SinkState) → StandForEach watches ws points → Halfway 0 watches ws points x before before false
  halfway_none nothing watches before stand = record { half = stand; wrote = nothing before; flagged = refl }

  module _ (k : ℕ) (watches : List Watch) (before mid : SinkState) (broken : Bool) (h : Halfway k watches ws points x before mid broken) (watch : Watch) (turn : Turn k watches ws points all watch) where
    front : take (suc k) ws ≡ take k ws ++ turn.named ∷ []
    front = front_more k ws turn.named turn.rest turn.is

    -- one more
    pub halfway_more : PiecesJoin → (v : Watch) (b flag : Bool) (now : SinkState) → Wrote mid now (lines (turn.named ∷ [])) None → StandsForNamed v turn.named all → b ≡ not (holds turn.named.formula all (length points))
        → ((b ≡ true) × (flag ≡ true)) ⊎ ((b ≡ false) × (flag ≡ broken)) → Halfway (suc k) (set watches k v) ws points x before now flag
    halfway_more joins v b flag now wrote stands judged flagged = record {
      half = turn.onward v stands;
      wrote = subst (λ (l : List ℕ). Wrote before now l None) (sym (ap lines front ∙ lines_both (take k ws) (turn.named ∷ []) all (length points)))
          (joins before mid now (lines (take k ws)) (lines (turn.named ∷ [])) None h.wrote wrote);
      flagged = ⊎_elim (λ y. y.1 ∙ sym (is_some (y.0))) (λ y. y.1 ∙ h.flagged ∙ sym (is_none y.0)) flagged;
    }
      where
        here : some (turn.named ∷ []) ≡ b
        here = some_one turn.named all (length points) b judged

        both : some (take (suc k) ws) ≡ has_some (broken_at (take k ws) all (length points) ++ broken_at (turn.named ∷ []) all (length points))
        both = ap some front ∙ ap has_some (at_append (take k ws) (turn.named ∷ []) all (length points))

        is_some : b ≡ true → some (take (suc k) ws) ≡ true
        is_some so = both ∙ some_right (broken_at (take k ws) all (length points)) (broken_at (turn.named ∷ []) all (length points)) (here ∙ so)

        is_none : b ≡ false → some (take (suc k) ws) ≡ some (take k ws)
        is_none not_so = both ∙ none_right (broken_at (take k ws) all (length points)) (broken_at (turn.named ∷ []) all (length points)) (here ∙ not_so)

    -- or something halted
    pub halfway_cut : PiecesJoin → HaltsBeforeMore → (now : SinkState) (halt : Halt) → Wrote mid now (lines (turn.named ∷ [])) (Some halt) → Wrote before now (lines ws) (Some halt)
    halfway_cut joins halts now halt wrote =
        let tail = lines (turn.named ∷ []) ++ lines turn.rest in
        let split : lines (turn.named ∷ turn.rest) ≡ tail = lines_both (turn.named ∷ []) turn.rest all (length points) in
        let whole : lines ws ≡ lines (take k ws) ++ tail =
        ap lines (sym (take-append-drop k ws) ∙ ap (λ (l : List NamedFormula). take k ws ++ l) turn.is)
        ∙ lines_both (take k ws) (turn.named ∷ turn.rest) all (length points) ∙ ap (λ (l : List ℕ). lines (take k ws) ++ l) split in
        subst (λ (l : List ℕ). Wrote before now l (Some halt)) (sym whole)
        (joins before mid now (lines (take k ws)) tail (Some halt) h.wrote (halts mid now (lines (turn.named ∷ [])) (lines turn.rest) halt wrote))

  -- behind the last
  pub record AllJudged (watches : List Watch) (before now : SinkState) (flag : Bool) : Type 0 where
    pub stand : StandForEach watches ws all
    pub wrote : Wrote before now (lines ws) None
    pub flagged : flag ≡ some ws

  pub halfway_end : (k : ℕ) (watches : List Watch) (before now : SinkState) (broken : Bool) → length watches ≤ k → Halfway k watches ws points x before now broken → AllJudged watches before now broken
  halfway_end k watches before now broken behind h =
      let stand = half_end k watches ws points all behind h.half in
      let many = as_many watches ws all stand in
      let whole : take k ws ≡ ws = take_all k ws (omega (arith, many)) in
      record {
        stand = stand;
        wrote = subst (λ (l : List NamedFormula). Wrote before now (lines l) None) whole h.wrote;
        flagged = h.flagged ∙ ap some whole;
      }

-- ---- whether some watch was broken

no_more : MeaningStays → (ws : List NamedFormula) (points more : List Point) (i : ℕ) → i < length points → broken_at ws (points ++ more) i ≡ broken_at ws points i
no_more stays [] points more i within = refl
no_more stays (w ∷ ws) points more i within =
    ap (λ (b : Bool). if b then broken_at ws (points ++ more) i else (w ∷ broken_at ws (points ++ more) i)) (stays w.formula points more i within)
    ∙ ap (λ (l : List NamedFormula). if holds w.formula points i then l else (w ∷ l)) (no_more stays ws points more i within)

some_there : (ws : List NamedFormula) → has_some ws ≡ true → ws ≢ []
some_there [] is none = cc
some_there (w ∷ ws) is none = cc

none_there : (ws : List NamedFormula) → has_some ws ≡ false → ws ≡ []
none_there [] is = refl
none_there (w ∷ ws) is = cc

module _ (stays : MeaningStays) (ws : List NamedFormula) (points : List Point) (x : Point) where
  long : length (points ++ x ∷ []) ≡ length points + 1
  long = length-append points (x ∷ [])

  -- one is broken at the last point
  pub broken_now : has_some (broken_at ws (points ++ x ∷ []) (length points)) ≡ true → (IsTrue true) ↔ AreBroken ws (points ++ x ∷ [])
  broken_now is = ((λ _. record { at = length points; within = omega (arith, long); broken = some_there (broken_at ws (points ++ x ∷ []) (length points)) is }), (λ _. refl))

  before_it : AreBroken ws points → AreBroken ws (points ++ x ∷ [])
  before_it y = record {
    at = y.at;
    within = let within = y.within in omega (arith, long);
    broken = subst (λ (l : List NamedFormula). l ≢ []) (sym (no_more stays ws points (x ∷ []) y.at y.within)) y.broken;
  }

  and_before : has_some (broken_at ws (points ++ x ∷ []) (length points)) ≡ false → AreBroken ws (points ++ x ∷ []) → AreBroken ws points
  and_before none y =
      ⊎_elim
      (λ (within : y.at < length points). record { at = y.at; within = within; broken = subst (λ (l : List NamedFormula). l ≢ []) (no_more stays ws points (x ∷ []) y.at within) y.broken })
      (λ (behind : length points ≤ y.at).
      (let within = y.within in
      let last : y.at ≡ length points = omega (arith, long) in
      absurd (y.broken (ap (broken_at ws (points ++ x ∷ [])) last ∙ none_there (broken_at ws (points ++ x ∷ []) (length points)) none))))
      (cases_lt y.at (length points))

  -- none is broken there
  pub broken_before : (flag : Bool) → has_some (broken_at ws (points ++ x ∷ []) (length points)) ≡ false → (IsTrue flag) ↔ AreBroken ws points → (IsTrue flag) ↔ AreBroken ws (points ++ x ∷ [])
  broken_before flag none same = ((λ is. before_it (same.0 is)), (λ y. same.1 (and_before none y)))

-- before the first point
pub none_broken : (ws : List NamedFormula) → (IsTrue false) ↔ AreBroken ws []
none_broken ws = ((λ is. cc), (λ y. absurd (let within = y.within in omega arith)))
