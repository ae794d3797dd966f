-- What has been said over the ends of a script, each message once.
use Rattle.std.specs.Prelude.{ℕ, Bool, ◌&&◌, ◌==◌, List, map}
use Rattle.std.specs.Bool.{beq}
use Rattle.std.specs.Str.{bytes_eq}
use Rattle.pz_env_tree.specs.pz_env_script.declared.entry.Entry.{Entry}
use Rattle.pz_env_tree.specs.pz_env_script.Entries.{count_in}
use Rattle.pz_env_tree.specs.EnvironmentClass.{is_sent}
use Rattle.pz_env.specs.devices.Firsts.{has, with_key}
use Rattle.pz_env.specs.declared.messages.Said.{Said}
use Rattle.pz_env.specs.declared.messages.SaidSet.{SaidSet}

pub record SaidSo : Type 0 where
  pub instance : List ℕ
  pub port : List ℕ
  pub message : List ℕ
  pub out : Bool
  pub count : ℕ

abbrev pub is_said : SaidSo → SaidSo → Bool
is_said x y = bytes_eq x.instance y.instance && (bytes_eq x.port y.port && (bytes_eq x.message y.message && (beq x.out y.out && x.count == y.count)))

abbrev pub said_by : Said → SaidSo
said_by s = record { instance = s.instance.now; port = s.port.now; message = s.message.now; out = s.out; count = s.count }

abbrev pub said_in : SaidSet → List SaidSo
said_in s = map said_by s.set.keys

abbrev pub said_by_entry : Entry → SaidSo
said_by_entry e = record { instance = e.instance; port = e.port; message = e.message; out = is_sent e.transfer; count = count_in e.transfer }

abbrev pub has_said : List SaidSo → SaidSo → Bool
has_said = has is_said said_by_entry

abbrev pub with_said : List SaidSo → SaidSo → List SaidSo
with_said = with_key is_said said_by_entry
