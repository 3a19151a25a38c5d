use Rattle.wot_engine.proofs.generated.play.Goals as goal

pub add_lines-requires-clause-small : goal.add_lines-requires-clause-small
add_lines-requires-clause-small g c = c.requires.small

pub add_lines-requires-clause-engine : goal.add_lines-requires-clause-engine
add_lines-requires-clause-engine g c = c.new-machine.ensures.start

pub add_lines-requires-clause-cursors : goal.add_lines-requires-clause-cursors
add_lines-requires-clause-cursors g c = c.new-machine.ensures.cursors

pub add_lines-requires-clause-watches : goal.add_lines-requires-clause-watches
add_lines-requires-clause-watches g c = c.new-machine.ensures.watches

pub add_lines-requires-clause-none : goal.add_lines-requires-clause-none
add_lines-requires-clause-none g c = c.requires.none

pub add_lines-requires-clause-amounts : goal.add_lines-requires-clause-amounts
add_lines-requires-clause-amounts g c = c.requires.amounts

pub add_lines-requires-clause-faithful : goal.add_lines-requires-clause-faithful
add_lines-requires-clause-faithful g c = c.requires.faithful

pub returns-clause-played : goal.returns-clause-played
returns-clause-played g c = c.add_lines.ensures.played

pub returns-clause-faithful : goal.returns-clause-faithful
returns-clause-faithful g c = c.add_lines.ensures.faithful

pub returns-clause-rows : goal.returns-clause-rows
returns-clause-rows g c = c.add_lines.ensures.rows
