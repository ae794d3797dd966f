-- Headings of lines, and lines of one moment.
use Rattle.std.proofs.Common.{◌≡◌, ◌<◌, ◌^◌, refl, sym, ap, ◌∙◌, ℕ, List, [], ◌∷◌, ◌++◌, codes, arith}
use Rattle.std.specs.Fmt.{decimal}
use Rattle.pz_trace.specs.declared.headings.Heading.TheVariants.{Step}
use Rattle.pz_trace.specs.Labels.{label}
use Rattle.pz_trace.specs.Lines.{newline}
use Rattle.pz_trace.specs.Headings.{BeginsWithNumbers, step, other}
use Rattle.pz_trace.specs.Laws.{OneFirstLine, ActionLinesDiffer, StopIsNoAction, StopIsNoPassing, OneHeading, ActionsHaveHeadings}
use Rattle.pz_trace.specs.devices.Reading.{BeginsWithNumber}
use Rattle.pz_trace.proofs.Digits.{head_is, tail_is, cut_once, cancel, decimal_lacks, decimal_begins}
use Rattle.pz_trace.proofs.Numerals.{decimal_once}

-- numbers before blanks

pub record SameNumber (n m : ℕ) (rest left : List ℕ) : Type 0 where
  pub same_number : n ≡ m
  pub same_rest : rest ≡ left

blank_once : (n m : ℕ) (rest left : List ℕ) → n < 10 ^ 64 → m < 10 ^ 64 → decimal n ++ (codes " " ++ rest) ≡ decimal m ++ (codes " " ++ left) → SameNumber n m rest left
blank_once n m rest left p q e =
    let same = cut_once 32 (decimal n) rest (decimal m) left (decimal_lacks 32 n (omega arith)) (decimal_lacks 32 m (omega arith)) e in
    record { same_number = decimal_once n m p q same.same_line; same_rest = same.same_rest }

pub number_once : (text : List ℕ) (n m : ℕ) (rest left : List ℕ) → BeginsWithNumber text n rest → BeginsWithNumber text m left → SameNumber n m rest left
number_once text n m rest left x y = blank_once n m rest left (omega (arith, x.fits)) (omega (arith, y.fits)) (sym x.is_text ∙ y.is_text)

-- the three numbers of a heading, one after the other

abbrev pub after_n : ℕ → List ℕ → List ℕ
after_n k rest = decimal k ++ (codes " " ++ rest)

abbrev pub after_clock : ℕ → ℕ → List ℕ → List ℕ
after_clock n k rest = decimal n ++ (codes " " ++ after_n k rest)

module _ (line : List ℕ) (clock n k : ℕ) (x : BeginsWithNumbers line clock n k) where
  pub first_number : BeginsWithNumber line clock (after_clock n k x.rest)
  first_number = record { fits = x.clock_fits; is_text = x.is_line }

  pub second_number : BeginsWithNumber (after_clock n k x.rest) n (after_n k x.rest)
  second_number = record { fits = omega (arith, x.n_fits); is_text = refl }

  pub third_number : BeginsWithNumber (after_n k x.rest) k x.rest
  third_number = record { fits = omega (arith, x.k_fits); is_text = refl }

pub three_numbers : (line rest left more : List ℕ) (clock n k : ℕ) → BeginsWithNumber line clock rest → BeginsWithNumber rest n left → BeginsWithNumber left k more → n < 2 ^ 64 → k < 2 ^ 64 → BeginsWithNumbers line clock n k
three_numbers line rest left more clock n k x y z n_fits k_fits = record {
  clock_fits = x.fits;
  n_fits = n_fits;
  k_fits = k_fits;
  rest = more;
  is_line = x.is_text
      ∙ ap (λ (l : List ℕ). decimal clock ++ (codes " " ++ l)) (y.is_text ∙ ap (λ (l : List ℕ). decimal n ++ (codes " " ++ l)) z.is_text);
}

pub record SameNumbers (clock n k clock' n' k' : ℕ) : Type 0 where
  pub same_clock : clock ≡ clock'
  pub same_n : n ≡ n'
  pub same_k : k ≡ k'

pub numbers_once : (line : List ℕ) (clock n k clock' n' k' : ℕ) → BeginsWithNumbers line clock n k → BeginsWithNumbers line clock' n' k' → SameNumbers clock n k clock' n' k'
numbers_once line clock n k clock' n' k' x y =
    let one = number_once line clock clock' (after_clock n k x.rest) (after_clock n' k' y.rest) (first_number line clock n k x) (first_number line clock' n' k' y) in
    let two = blank_once n n' (after_n k x.rest) (after_n k' y.rest) (omega (arith, x.n_fits)) (omega (arith, y.n_fits)) one.same_rest in
    let three = blank_once k k' x.rest y.rest (omega (arith, x.k_fits)) (omega (arith, y.k_fits)) two.same_rest in
    record { same_clock = one.same_number; same_n = two.same_number; same_k = three.same_number }

step_is : {clock n k clock' n' k' : ℕ} → SameNumbers clock n k clock' n' k' → Step clock n k ≡ Step clock' n' k'
step_is {clock} {n} {k} {clock'} {n'} {k'} same =
    ap (λ (i : ℕ). Step i n k) same.same_clock ∙ ap (λ (i : ℕ). Step clock' i k) same.same_n ∙ ap (λ (i : ℕ). Step clock' n' i) same.same_k

pub one_heading : OneHeading
one_heading line _ _ (step clock n k x) (step clock' n' k' y) = step_is (numbers_once line clock n k clock' n' k' x y)
one_heading line _ _ (step clock n k x) (other none) = absurd (none clock n k x)
one_heading line _ _ (other none) (step clock n k x) = absurd (none clock n k x)
one_heading line _ _ (other none) (other none') = refl

pub actions_have_headings : ActionsHaveHeadings
actions_have_headings m clock n k a clock_fits n_fits k_fits = step clock n k (record {
  clock_fits = clock_fits;
  n_fits = n_fits;
  k_fits = k_fits;
  rest = label m a ++ newline;
  is_line = refl;
})

-- lines

regroup : (front rest : List ℕ) → (front ++ newline) ++ rest ≡ front ++ (10 ∷ rest)
regroup [] rest = refl
regroup (x ∷ front) rest = ap (λ (l : List ℕ). x ∷ l) (regroup front rest)

pub one_first_line : OneFirstLine
one_first_line line second rest left x y e =
    let cut : x.front ++ (10 ∷ rest) ≡ y.front ++ (10 ∷ left) =
    sym (regroup x.front rest) ∙ sym (ap (λ (l : List ℕ). l ++ rest) x.ends) ∙ e ∙ ap (λ (l : List ℕ). l ++ left) y.ends ∙ regroup y.front left in
    let same = cut_once 10 x.front rest y.front left x.unbroken y.unbroken cut in
    record { same_line = x.ends ∙ ap (λ (l : List ℕ). l ++ newline) same.same_line ∙ sym y.ends; same_rest = same.same_rest }

pub action_lines_differ : ActionLinesDiffer
action_lines_differ m clock n k l a b p q e =
    let blank = codes " " in
    let behind_clock = cancel (decimal clock) (blank ++ (decimal n ++ (blank ++ (decimal k ++ (blank ++ (label m a ++ newline))))))
    (blank ++ (decimal n ++ (blank ++ (decimal l ++ (blank ++ (label m b ++ newline)))))) e in
    let behind_n = cancel (decimal n) (blank ++ (decimal k ++ (blank ++ (label m a ++ newline)))) (blank ++ (decimal l ++ (blank ++ (label m b ++ newline)))) (tail_is behind_clock) in
    (blank_once k l (label m a ++ newline) (label m b ++ newline) (omega arith) (omega arith) (tail_is behind_n)).same_number

pub stop_is_no_action : StopIsNoAction
stop_is_no_action m clock n k a e =
    let rest = codes " " ++ (decimal k ++ (codes " " ++ (label m a ++ newline))) in
    let behind : codes " " ++ (decimal n ++ rest) ≡ codes " stop" ++ newline = cancel (decimal clock) (codes " " ++ (decimal n ++ rest)) (codes " stop" ++ newline) e in
    let begins = decimal_begins n in
    let first : begins.first ≡ 115 = head_is (sym (ap (λ (l : List ℕ). l ++ rest) begins.is) ∙ tail_is behind) in
    omega (arith, begins.high, first)

pub stop_is_no_passing : StopIsNoPassing
stop_is_no_passing m clock d e =
    let behind : codes " time " ++ (decimal d ++ newline) ≡ codes " stop" ++ newline = cancel (decimal clock) (codes " time " ++ (decimal d ++ newline)) (codes " stop" ++ newline) e in
    omega (arith, head_is (tail_is behind))
