use Rattle.pz_sim_laws.proofs.Leading.{member_acts, action_leads, communication_leads, sender_trouble, passing_leads, members_stay, members_pass}
use Rattle.pz_sim_laws.proofs.laws.steps_lead_on.Goals as goal

pub returns : goal.returns
returns c = record {
  acts = member_acts;
  action = action_leads;
  communication = communication_leads;
  trouble = sender_trouble c.each_list_has_an_outcome.ensures.law;
  passing = passing_leads;
  stay = members_stay;
  pass = members_pass;
}
