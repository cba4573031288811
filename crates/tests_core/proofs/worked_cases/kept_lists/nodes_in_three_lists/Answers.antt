use Rattle.tests_core.proofs.ThreeLists.{of_left, of_one, of_touched, of_two, on_left, on_one, on_three, on_touched, on_two, recall, recall_left, recall_touched}
use Rattle.tests_core.proofs.worked_cases.kept_lists.nodes_in_three_lists.Goals as goal

pub returns-clause-on_an_inode_alone : goal.returns-clause-on_an_inode_alone
returns-clause-on_an_inode_alone g = on_one

pub returns-clause-on_another : goal.returns-clause-on_another
returns-clause-on_another g = on_two

pub returns-clause-recall : goal.returns-clause-recall
returns-clause-recall g = recall

pub returns-clause-on_an_inode : goal.returns-clause-on_an_inode
returns-clause-on_an_inode g = on_three

pub returns-clause-of_a_client : goal.returns-clause-of_a_client
returns-clause-of_a_client g = of_one

pub returns-clause-of_another : goal.returns-clause-of_another
returns-clause-of_another g = of_two

pub returns-clause-recall_when_touched : goal.returns-clause-recall_when_touched
returns-clause-recall_when_touched g = recall_touched

pub returns-clause-on_an_inode_when_touched : goal.returns-clause-on_an_inode_when_touched
returns-clause-on_an_inode_when_touched g = on_touched

pub returns-clause-of_a_client_when_touched : goal.returns-clause-of_a_client_when_touched
returns-clause-of_a_client_when_touched g = of_touched

pub returns-clause-on_an_inode_without_the_last : goal.returns-clause-on_an_inode_without_the_last
returns-clause-on_an_inode_without_the_last g = on_left

pub returns-clause-of_a_client_without_nodes : goal.returns-clause-of_a_client_without_nodes
returns-clause-of_a_client_without_nodes g = of_left

pub returns-clause-recall_without_the_last : goal.returns-clause-recall_without_the_last
returns-clause-recall_without_the_last g = recall_left
