pub mod Demand
pub mod PanelBound
pub mod Instance
