mod OneHart
mod GuardsOff
