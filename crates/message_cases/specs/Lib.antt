pub mod FedNodes
pub mod FedNets
