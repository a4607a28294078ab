-- Trees as nodes with places and bounds: the words of the lemmas on trees that other crates' proofs
-- cite too.
pub mod Nodes
pub mod Ext
pub mod TreeNodes
