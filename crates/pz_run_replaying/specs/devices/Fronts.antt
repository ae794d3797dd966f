-- What a text begins with.
use Rattle.std.specs.Prelude.{◌≡◌, ◌≤◌, ℕ, List, ◌++◌, length, take, drop}

-- this line, of so many bytes
pub record StartsWith (text line : List ℕ) (len : ℕ) : Type 0 where
  pub counted : len ≡ length line
  pub within : len ≤ length text
  pub front : take len text ≡ line
  pub splits : text ≡ line ++ drop len text
