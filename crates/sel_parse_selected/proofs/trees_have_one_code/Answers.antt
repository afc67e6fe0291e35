use Rattle.sel_parse_selected.proofs.Making.{has_one_code, is_one_end, is_made, is_full}
use Rattle.sel_parse_selected.proofs.trees_have_one_code.Goals as goal

pub returns-clause-one : goal.returns-clause-one
returns-clause-one g c = has_one_code g.T.Templates.meaning

pub returns-clause-end : goal.returns-clause-end
returns-clause-end g c = is_one_end g.T.Templates.meaning

pub returns-clause-made : goal.returns-clause-made
returns-clause-made g c = is_made g.T.Templates.meaning

pub returns-clause-full : goal.returns-clause-full
returns-clause-full g c = is_full g.T.Templates.meaning
