use Rattle.tm_gf256.proofs.DualInverse.{sent_octet-lt, element_of-lt, element_of-sent_octet, sent_octet-element_of}
use Rattle.tm_gf256.proofs.basis.basis_laws.Goals as goal

pub returns-clause-octet_is_octet : goal.returns-clause-octet_is_octet
returns-clause-octet_is_octet c = sent_octet-lt

pub returns-clause-element_is_element : goal.returns-clause-element_is_element
returns-clause-element_is_element c = element_of-lt

pub returns-clause-element_of_octet : goal.returns-clause-element_of_octet
returns-clause-element_of_octet c = element_of-sent_octet

pub returns-clause-octet_of_element : goal.returns-clause-octet_of_element
returns-clause-octet_of_element c = sent_octet-element_of
