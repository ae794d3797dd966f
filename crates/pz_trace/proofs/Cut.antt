-- Where a byte first stands in a text, and its first line.
use Rattle.std.proofs.Common.{◌≡◌, ◌≤◌, ◌<◌, ◌^◌, refl, sym, ap, subst, ◌∙◌, ℕ, zero, suc, false, List, [], ◌∷◌, ◌++◌, length, get_or, take, drop, arith, length-append, take-append-drop, drop-cons}
use Rattle.std.specs.Prelude.{nat_eq}
use Rattle.std.specs.List.{list_any}
use Rattle.std.specs.Fmt.{decimal}
use Rattle.std.proofs.lemmas.List.{append-nil}
use Rattle.std.proofs.lemmas.List.Folds.{list_any-append}
use Rattle.std.proofs.lemmas.Bool.{ne_eqb}
use Rattle.std.proofs.Math.Seq.{take-suc}
use Rattle.pz_trace.specs.Laws.{Unbroken, IsLine}
use Rattle.pz_trace.specs.devices.Reading.{Lacks, StandsFirst, BeginsWithNumber}
use Rattle.pz_trace.proofs.Digits.{lacks_first, lacks_rest, cut_once, decimal_lacks}
use Rattle.pz_trace.proofs.Headed.{one_first_line}

-- another byte stands there
pub lacks_more : (byte i : ℕ) (text : List ℕ) → i < length text → Lacks byte (take i text) → (get_or text i 0 ≡ byte → ⊥) → Lacks byte (take (suc i) text)
lacks_more byte i text within lacks apart =
    let other : nat_eq byte (get_or text i 0) ≡ false = ne_eqb byte (get_or text i 0) (λ same. apart (sym same)) in
    ap (list_any (nat_eq byte)) (take-suc text i 0 within) ∙ list_any-append (nat_eq byte) (take i text) (get_or text i 0 ∷ []) ∙ rw (lacks, other) refl

pub stands_first : (byte i : ℕ) (text : List ℕ) → i < length text → Lacks byte (take i text) → get_or text i 0 ≡ byte → StandsFirst byte text i
stands_first byte i text within lacks same = record {
  within = within;
  before = lacks;
  splits = sym (take-append-drop i text) ∙ ap (λ (l : List ℕ). take i text ++ l) (drop-cons text i 0 within ∙ ap (λ (b : ℕ). b ∷ drop (suc i) text) same);
}

one_more : (byte i : ℕ) (text : List ℕ) → StandsFirst byte text i → take (suc i) text ≡ take i text ++ (byte ∷ [])
one_more byte i text x = (cut_front (take i text) (drop (suc i) text) byte i text x.within x.splits)
  where
    cut_front : (a d : List ℕ) (b j : ℕ) (l : List ℕ) → j < length l → l ≡ take j l ++ (b ∷ d) → take (suc j) l ≡ take j l ++ (b ∷ [])
    cut_front a d b zero [] within e = absurd (omega (arith, within))
    cut_front a d b zero (x ∷ l) within e = cc
    cut_front a d b (suc j) [] within e = absurd (omega (arith, within))
    cut_front a d b (suc j) (x ∷ l) within e = ap (λ (m : List ℕ). x ∷ m) (cut_front a d b j l (omega (arith, within)) cc)

-- up to an LF that no other comes before stands a line
pub line_there : (i : ℕ) (text : List ℕ) → StandsFirst 10 text i → IsLine (take (suc i) text)
line_there i text x = record { front = take i text; unbroken = x.before; ends = one_more 10 i text x }

lacks_middle : (byte : ℕ) (front rest : List ℕ) → Lacks byte (front ++ (byte ∷ rest)) → ⊥
lacks_middle byte [] rest lacks = lacks_first byte byte rest lacks refl
lacks_middle byte (x ∷ front) rest lacks = lacks_middle byte front rest (lacks_rest byte x (front ++ (byte ∷ rest)) lacks)

pub no_line : (text : List ℕ) → Unbroken text → IsLine text → ⊥
no_line text unbroken line = lacks_middle 10 line.front [] (subst Unbroken line.ends unbroken)

front_alone : (front rest text : List ℕ) → text ≡ front ++ rest → length text ≤ length front → text ≡ front
front_alone front [] text is within = is ∙ append-nil front
front_alone front (x ∷ rest) text is within = absurd (omega (arith, within, ap (λ (l : List ℕ). length l) is, length-append front (x ∷ rest)))

-- a text is a line exactly where nothing follows its first line

pub line_alone : (front rest text : List ℕ) → IsLine front → text ≡ front ++ rest → length text ≤ length front → IsLine text
line_alone front rest text line is within = subst IsLine (sym (front_alone front rest text is within)) line

pub line_goes_on : (front rest text : List ℕ) → IsLine front → text ≡ front ++ rest → length front < length text → IsLine text → ⊥
line_goes_on front rest text first is within line =
    omega (arith, within, ap (λ (l : List ℕ). length l) (one_first_line front text rest [] first line (sym is ∙ sym (append-nil text))).same_line)

-- numbers before a blank

pub no_number : (text : List ℕ) → Lacks 32 text → (n : ℕ) (rest : List ℕ) → BeginsWithNumber text n rest → ⊥
no_number text lacks n rest x = lacks_middle 32 (decimal n) rest (subst (Lacks 32) x.is_text lacks)

pub number_there : (text : List ℕ) (i n : ℕ) → StandsFirst 32 text i → n < 2 ^ 128 → take i text ≡ decimal n → BeginsWithNumber text n (drop (suc i) text)
number_there text i n x fits is = record { fits = fits; is_text = x.splits ∙ ap (λ (l : List ℕ). l ++ (32 ∷ drop (suc i) text)) is }

pub number_digits : (text : List ℕ) (i n : ℕ) (rest : List ℕ) → StandsFirst 32 text i → BeginsWithNumber text n rest → take i text ≡ decimal n
number_digits text i n rest x y = (cut_once 32 (take i text) (drop (suc i) text) (decimal n) rest x.before (decimal_lacks 32 n (omega arith)) (sym x.splits ∙ y.is_text)).same_line
