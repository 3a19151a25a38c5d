use Rattle.wot_network.specs.Records.{record_of}
use Rattle.wot_network.proofs.Lawful.{are_entries}
use Rattle.wot_network.proofs.laws.record_is_lawful.Goals as goal

pub returns-clause-ordered : goal.returns-clause-ordered
returns-clause-ordered c certs verdicts t u named =
    are_entries c.edges_are_rows.ensures.rows c.edges_are_rows.ensures.into certs verdicts t u named

pub returns-clause-lawful : goal.returns-clause-lawful
returns-clause-lawful c certs verdicts t u named =
    c.entries_are_record.ensures.lawful (record_of certs verdicts t u)
    (are_entries c.edges_are_rows.ensures.rows c.edges_are_rows.ensures.into certs verdicts t u named)
