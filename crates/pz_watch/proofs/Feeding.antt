-- What is kept behind some points answers for the next one, and becomes what is kept behind that.
use Rattle.std.proofs.Common.{◌≡◌, refl, sym, ap, ◌∙◌, ℕ, zero, suc, ◌<◌, ◌≤◌, Bool, not, ◌&&◌, ◌||◌, List, [], ◌∷◌, ◌++◌, length, Option, arith}
use Rattle.pz_watch.specs.Points.{Point, clock_at, AreInOrder}
use Rattle.pz_watch.specs.Formulas.{Formula, line, negation, both, either, before, once, always, since, says_at, is_near, holds}
use Rattle.pz_watch.specs.devices.Memory.{Memory, at_negation, at_both, at_either, at_before, at_once, at_always, at_since, is_within, marked, renewed, told, later, latest_of, latest_since, at_last, behind}
use Rattle.pz_watch.proofs.Points.{get_last, clock_left, clock_last, length_added}
use Rattle.pz_watch.proofs.Meanings.{each_is, stays}
use Rattle.pz_watch.proofs.Latest.{RiseTo, nearest, nearest_since}

same_latest : (n : ℕ) (p q : ℕ → Bool) (ps rs : List Point) → ((j : ℕ) → j < n → p j ≡ q j) → ((j : ℕ) → j < n → clock_at ps j ≡ clock_at rs j) → latest_of p ps n ≡ latest_of q rs n
same_latest zero p q ps rs h clocks = refl
same_latest (suc n) p q ps rs h clocks =
    let here : p n ≡ q n = h n (omega arith) in
    let clock : clock_at ps n ≡ clock_at rs n = clocks n (omega arith) in
    let rest : latest_of p ps n ≡ latest_of q rs n = same_latest n p q ps rs (λ j lt. h j (omega arith)) (λ j lt. clocks j (omega arith)) in
    rw (here, clock, rest) refl

same_since : (n : ℕ) (f g d e : ℕ → Bool) (ps rs : List Point) → ((j : ℕ) → j < n → f j ≡ d j) → ((j : ℕ) → j < n → g j ≡ e j) → ((j : ℕ) → j < n → clock_at ps j ≡ clock_at rs j) → latest_since f g ps n ≡ latest_since d e rs n
same_since zero f g d e ps rs kept met clocks = refl
same_since (suc n) f g d e ps rs kept met clocks =
    let one : f n ≡ d n = kept n (omega arith) in
    let other : g n ≡ e n = met n (omega arith) in
    let clock : clock_at ps n ≡ clock_at rs n = clocks n (omega arith) in
    let rest : latest_since f g ps n ≡ latest_since d e rs n = same_since n f g d e ps rs (λ j lt. kept j (omega arith)) (λ j lt. met j (omega arith)) (λ j lt. clocks j (omega arith)) in
    rw (one, other, clock, rest) refl

-- the run, with one more point
module _ (ps : List Point) (x : Point) (order : AreInOrder (ps ++ x ∷ [])) where
  abbrev all : List Point
  all = ps ++ x ∷ []

  abbrev i : ℕ
  i = length ps

  rise : RiseTo i all
  rise = record { rising = λ a k le last. order.rising a k le (rw (length_added ps x) (omega arith)) }

  clocks : (j : ℕ) → j < i → clock_at all j ≡ clock_at ps j
  clocks j lt = clock_left ps x j lt

  at_end : clock_at all i ≡ x.clock
  at_end = clock_last ps x

  -- the latest clock that counts, once the last point is known
  marks : (p q : ℕ → Bool) (v : Bool) → ((j : ℕ) → j < i → p j ≡ q j) → v ≡ p i → marked v x.clock (latest_of q ps i) ≡ latest_of p all (suc i)
  marks p q v same here =
      let rest : latest_of p all i ≡ latest_of q ps i = same_latest i p q all ps same clocks in
      ap (λ (u : Bool). marked u x.clock (latest_of q ps i)) here
      ∙ ap (λ (c : ℕ). marked (p i) c (latest_of q ps i)) (sym at_end)
      ∙ ap (λ (l : Option ℕ). marked (p i) (clock_at all i) l) (sym rest)

  renews : (f g d e : ℕ → Bool) (kept met : Bool) → ((j : ℕ) → j < i → f j ≡ d j) → ((j : ℕ) → j < i → g j ≡ e j) → kept ≡ f i → met ≡ g i → renewed kept met x.clock (latest_since d e ps i) ≡ latest_since f g all (suc i)
  renews f g d e kept met one other here there =
      let rest : latest_since f g all i ≡ latest_since d e ps i = same_since i f g d e all ps one other clocks in
      ap (λ (u : Bool). renewed u met x.clock (latest_since d e ps i)) here
      ∙ ap (λ (u : Bool). renewed (f i) u x.clock (latest_since d e ps i)) there
      ∙ ap (λ (c : ℕ). renewed (f i) (g i) c (latest_since d e ps i)) (sym at_end)
      ∙ ap (λ (l : Option ℕ). renewed (f i) (g i) (clock_at all i) l) (sym rest)

  last_before : (f : Formula) (n : ℕ) → n ≤ i → at_last (holds f ps) n ≡ holds (before f) all n
  last_before f zero le = refl
  last_before f (suc n) le = sym (stays f ps x n (omega arith))

  pub answers : (f : Formula) → told (behind f ps) x ≡ holds f all i
  answers (line atom) = sym (ap (says_at atom) (get_last ps x))
  answers (negation f) = ap not (answers f)
  answers (both f g) =
      ap (λ (v : Bool). v && told (behind g ps) x) (answers f) ∙ ap (λ (v : Bool). holds f all i && v) (answers g)
  answers (either f g) =
      ap (λ (v : Bool). v || told (behind g ps) x) (answers f) ∙ ap (λ (v : Bool). holds f all i || v) (answers g)
  answers (before f) = last_before f i (omega arith)
  answers (once b f) =
      ap
      (λ (l : Option ℕ). is_within b x.clock l)
      (marks (holds f all) (holds f ps) (told (behind f ps) x) (λ j lt. stays f ps x j lt) (answers f))
      ∙ ap (λ (c : ℕ). is_within b c (latest_of (holds f all) all (suc i))) (sym at_end)
      ∙ sym (nearest i b (clock_at all i) (holds f all) all rise)
  answers (always b f) =
      ap
      (λ (l : Option ℕ). not (is_within b x.clock l))
      (marks (λ j. not (holds f all j)) (λ j. not (holds f ps j)) (not (told (behind f ps) x)) (λ j lt. ap not (stays f ps x j lt)) (ap not (answers f)))
      ∙ ap (λ (c : ℕ). not (is_within b c (latest_of (λ j. not (holds f all j)) all (suc i)))) (sym at_end)
      ∙ ap not (sym (nearest i b (clock_at all i) (λ j. not (holds f all j)) all rise))
      ∙ sym (each_is i (λ j. is_near b (clock_at all i) (clock_at all j)) (holds f all))
  answers (since b f g) =
      ap
      (λ (l : Option ℕ). is_within b x.clock l)
      (renews (holds f all) (holds g all) (holds f ps) (holds g ps) (told (behind f ps) x) (told (behind g ps) x) (λ j lt. stays f ps x j lt) (λ j lt. stays g ps x j lt) (answers f) (answers g))
      ∙ ap (λ (c : ℕ). is_within b c (latest_since (holds f all) (holds g all) all (suc i))) (sym at_end)
      ∙ sym (nearest_since i b (clock_at all i) (holds f all) (holds g all) all rise)

  more : (P : ℕ → Option ℕ) → P (suc i) ≡ P (length all)
  more P = ap P (sym (length_added ps x))

  pub keeps : (f : Formula) → later (behind f ps) x ≡ behind f all
  keeps (line atom) = refl
  keeps (negation f) = ap at_negation (keeps f)
  keeps (both f g) =
      ap (λ (m : Memory). at_both m (later (behind g ps) x)) (keeps f) ∙ ap (λ (m : Memory). at_both (behind f all) m) (keeps g)
  keeps (either f g) =
      ap (λ (m : Memory). at_either m (later (behind g ps) x)) (keeps f) ∙ ap (λ (m : Memory). at_either (behind f all) m) (keeps g)
  keeps (before f) =
      ap (λ (v : Bool). at_before v (later (behind f ps) x)) (answers f ∙ ap (λ (n : ℕ). at_last (holds f all) n) (sym (length_added ps x)))
      ∙ ap (λ (m : Memory). at_before (at_last (holds f all) (length all)) m) (keeps f)
  keeps (once b f) =
      ap
      (λ (l : Option ℕ). at_once b l (later (behind f ps) x))
      (marks (holds f all) (holds f ps) (told (behind f ps) x) (λ j lt. stays f ps x j lt) (answers f)
      ∙ more (latest_of (holds f all) all))
      ∙ ap (λ (m : Memory). at_once b (latest_of (holds f all) all (length all)) m) (keeps f)
  keeps (always b f) =
      ap
      (λ (l : Option ℕ). at_always b l (later (behind f ps) x))
      (marks (λ j. not (holds f all j)) (λ j. not (holds f ps j)) (not (told (behind f ps) x)) (λ j lt. ap not (stays f ps x j lt)) (ap not (answers f))
      ∙ more (latest_of (λ j. not (holds f all j)) all))
      ∙ ap (λ (m : Memory). at_always b (latest_of (λ j. not (holds f all j)) all (length all)) m) (keeps f)
  keeps (since b f g) =
      ap
      (λ (l : Option ℕ). at_since b l (later (behind f ps) x) (later (behind g ps) x))
      (renews (holds f all) (holds g all) (holds f ps) (holds g ps) (told (behind f ps) x) (told (behind g ps) x) (λ j lt. stays f ps x j lt) (λ j lt. stays g ps x j lt) (answers f) (answers g)
      ∙ more (latest_since (holds f all) (holds g all) all))
      ∙ ap
      (λ (m : Memory). at_since b (latest_since (holds f all) (holds g all) all (length all)) m (later (behind g ps) x))
      (keeps f)
      ∙ ap (λ (m : Memory). at_since b (latest_since (holds f all) (holds g all) all (length all)) (behind f all) m) (keeps g)
