-- What a node keeps of its term.
use Rattle.std.specs.Prelude.{◌≡◌, ℕ, suc, max, Bool, true, false, ◌||◌}
use Rattle.pz_rules.specs.pz_offer.Summaries.{nothing, join, shifted}
use Rattle.pz_rules.specs.Terms.{Term, Terms, no_terms, and, height, greatest_height}
use Rattle.pz_rules.specs.Settings.{Context}
use Rattle.pz_tree_standing.specs.Summaries.{summary_of, summaries_of}
use Rattle.pz_tree_standing.specs.Asked.{asks, any_asks}
use Rattle.pz_tree_standing.specs.Woken.{starts, clocked}
use Rattle.pz_tree_nodes.specs.declared.kept.Kept.{Kept}

-- what a passing of time may wake of a term that stands in frame f
pub record HasFlags (a : Context) (f : ℕ) (t : Term) (k : Kept) : Type 0 where
  pub starts : k.starts ≡ starts a f t
  pub clocked : k.clocked ≡ clocked a f t

-- What no clock decides. Where nothing is asked, no state and no frame decides what a passing of time may wake.
pub record IsMarked (t : Term) (k : Kept) : Type 0 where
  pub asked : k.asks ≡ asks t
  pub high : k.height ≡ height t
  pub flags : asks t ≡ false → (a : Context) (f : ℕ) → HasFlags a f t k

-- Of a term whose clock shows c. Where something is asked, nothing is said of the summary; where nothing is, it
-- is one, whatever the state, the clock of the process and the frame.
pub record IsKept (c : ℕ) (t : Term) (k : Kept) : Type 0 where
  pub mark : IsMarked t k
  pub rests : asks t ≡ false → (a : Context) (f : ℕ) → k.summary ≡ summary_of a c f t

abbrev pub any_term : (Term → Bool) → Terms → Bool
any_term q no_terms = false
any_term q (and t ts) = q t || any_term q ts

-- of parts side by side
pub record AreKept (c : ℕ) (ts : Terms) (k : Kept) : Type 0 where
  pub asked : k.asks ≡ any_asks ts
  pub high : k.height ≡ greatest_height ts
  pub starts : any_asks ts ≡ false → (a : Context) (f : ℕ) → k.starts ≡ any_term (starts a f) ts
  pub clocked : any_asks ts ≡ false → (a : Context) (f : ℕ) → k.clocked ≡ any_term (clocked a f) ts
  pub rests : any_asks ts ≡ false → (a : Context) (f : ℕ) → k.summary ≡ summaries_of a c f ts

abbrev pub kept_none : Kept
kept_none = record { summary = nothing; asks = false; starts = false; clocked = false; height = 0 }

abbrev pub kept_done : Kept
kept_done = record { summary = nothing; asks = false; starts = false; clocked = false; height = 1 }

abbrev pub kept_asked : Kept
kept_asked = record { summary = nothing; asks = true; starts = false; clocked = false; height = 1 }

-- of two parts, from the left
abbrev pub joined : Kept → Kept → Kept
joined k l = record {
  summary = join k.summary l.summary;
  asks = k.asks || l.asks;
  starts = k.starts || l.starts;
  clocked = k.clocked || l.clocked;
  height = max k.height l.height;
}

-- of a node over parts
abbrev pub raised : Kept → Kept
raised k = record k { height = suc k.height }

-- of the same parts, by a clock that is ahead by so much
abbrev pub kept_later : ℕ → Kept → Kept
kept_later by k = record k { summary = shifted by k.summary }
