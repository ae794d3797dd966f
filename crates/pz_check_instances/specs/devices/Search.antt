-- What a search for ends keeps.
use Rattle.std.specs.Prelude.{ℕ, List, map}
use Rattle.pz_check_instances.specs.declared.channel_ends.Asked.{Asked}
use Rattle.pz_check_instances.specs.declared.channel_ends.Search.{Search}
use Rattle.pz_check_instances.specs.devices.ClassRows.{row, row_count}
use Rattle.pz_check_instances.specs.devices.Ends.{Wanted}

abbrev pub wanted : Asked → Wanted
wanted a = record { port = a.port.now; place = a.place }

-- how many classes may be asked for ports
abbrev pub search_count : Search → ℕ
search_count s = row_count s.asked

-- what is asked of the class of this number
abbrev pub wanted_of : Search → ℕ → List Wanted
wanted_of s k = map wanted (row s.asked k)
