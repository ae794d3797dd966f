-- Summaries: how much the active parts of a term can do, when the first of their delays is over, and the
-- first trouble of what they are asked.
use Rattle.std.specs.Prelude.{◌+◌, ◌^◌, ◌<◌, ℕ, min, Option, Some, None, option_map, IfSome}
use Rattle.std.specs.Option.{option_or}
use Rattle.pz_offer.specs.declared.summary.Summary.{Summary}

abbrev pub nothing : Summary
nothing = record { internal = 0; sends = 0; receives = 0; due = None; trouble = None }

-- the least of two moments, of which each may be wanting
abbrev pub least : Option ℕ → Option ℕ → Option ℕ
least None d = d
least (Some c) None = Some c
least (Some c) (Some d) = Some (min c d)

-- of two parts, from the left: sums, the least moment, the first trouble
abbrev pub join : Summary → Summary → Summary
join s t = record {
  internal = s.internal + t.internal;
  sends = s.sends + t.sends;
  receives = s.receives + t.receives;
  due = least s.due t.due;
  trouble = option_or s.trouble t.trouble;
}

-- seen from a clock that is ahead by so much
abbrev pub shifted : ℕ → Summary → Summary
shifted by s = record s { due = option_map (λ d. d + by) s.due }

-- their sums are numbers of 64 bits
pub record AreJoinable (s t : Summary) : Type 0 where
  pub internal : s.internal + t.internal < 2 ^ 64
  pub sends : s.sends + t.sends < 2 ^ 64
  pub receives : s.receives + t.receives < 2 ^ 64

-- its moment is one of 128 bits afterwards
abbrev pub MayShift : ℕ → Summary → Type 0
MayShift by s = IfSome s.due (λ d. d + by < 2 ^ 128)
