-- Lines are cut in one way, and each is of one watch.
use Rattle.pz_watch.proofs.Lists.{one_list, never_both, one_line}
use Rattle.pz_watch.proofs.laws.files_have_one_answer.Goals as goal

pub returns-clause-list : goal.returns-clause-list
returns-clause-list c = λ is_name text ws vs words. one_list is_name words text ws vs

pub returns-clause-never_both : goal.returns-clause-never_both
returns-clause-never_both c = λ is_name text ws line words. never_both is_name words text ws line

pub returns-clause-line : goal.returns-clause-line
returns-clause-line c = λ is_name text one other words. one_line is_name words text one other
