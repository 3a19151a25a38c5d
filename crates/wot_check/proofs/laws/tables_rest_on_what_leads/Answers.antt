use Rattle.wot_check.proofs.LeastTableOfLeads.{leading_shared, tables_agree, valid_from}
use Rattle.wot_check.proofs.laws.tables_rest_on_what_leads.Goals as goal

pub returns : goal.returns
returns c = record { within = valid_from; shared = leading_shared; tables = tables_agree }
