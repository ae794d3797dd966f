use Rattle.pz_env_same.proofs.Leading.{is_behind}
use Rattle.pz_env_same.proofs.Behind.{processes_see, both_whole, sees_there, stands_there, stands_back, more_stands, alone_stands, part_there, part_back, part_is_of}
use Rattle.pz_env_same.proofs.laws.processes_stand_in_both.Goals as goal

pub returns : goal.returns
returns k = record {
  behind = is_behind;
  whole = both_whole;
  processes = λ n g c e p same more i q. (stands_there n g c e p same more i q, stands_back n g c e p same more i q);
  sees = λ n g c e p same more i q. (λ a st. processes_see n g c i q a same st, sees_there n g c e p same more i q);
  more = more_stands;
  last = alone_stands;
  parts = λ n g c e p same more at f t. (λ a is. part_there n g c e p same more at a f t is, λ a of is. part_back n g c e p same more at a f t of is);
  of_model = part_is_of;
}
